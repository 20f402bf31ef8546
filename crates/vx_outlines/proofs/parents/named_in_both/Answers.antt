use Rattle.std.proofs.Common.{List, ap, sym, ℕ, ◌++◌, ◌∙◌, ◌≡◌}
use Rattle.std.proofs.lemmas.List.Folds.{find-append}
use Rattle.std.specs.Option.{option_or}
use Rattle.std.specs.Prelude.{Option, bytes_eq}
use Rattle.vx_outlines.specs.Refusals.{named}
use Rattle.vx_outlines.specs.declared.outline.Outline.{Outline}
use Rattle.vx_outlines.proofs.parents.named_in_both.Goals as goal

-- the class of a name in the first list, and else in the second
in_both : (classes core : List Outline) (name : List ℕ) (first : Option Outline) → first ≡ named classes name → option_or first (named core name) ≡ named (classes ++ core) name
in_both classes core name first is = ap (λ o. option_or o (named core name)) is ∙ sym (find-append (λ o. bytes_eq o.name name) classes core)

pub returns-in-Some : goal.returns-in-Some
returns-in-Some c = in_both c.args.classes.now c.args.core.now c.args.name.now _ c.in-Some.ensures

pub returns-in-None : goal.returns-in-None
returns-in-None c = c.named-in-None.ensures ∙ in_both c.args.classes.now c.args.core.now c.args.name.now _ c.in-None.ensures
