use Rattle.std.proofs.Common.{List, ap, false, subst, sym, true, ◌≡◌, ◌∙◌}
use Rattle.std.specs.Prelude.{MatchOption, None, Option, Some, if◌then◌else◌}
use Rattle.vx_link.specs.Assignability.{assignable}
use Rattle.vx_link.specs.ClassNames.{core_class}
use Rattle.vx_noted.specs.Noted.{below_initialisation}
use Rattle.vx_noted.specs.declared.frames.Standing.{Standing}
use Rattle.vx_noted.proofs.wrapping.below_wrapped.Goals as goal

pub returns-then-assignable : goal.returns-then-assignable
returns-then-assignable c =
    let p = c.args.program.now in
    let told : assignable p c.args.thrown.0 (core_class p "java/lang/Error") ≡ true = sym (c.assignable.ensures ∙ ap (assignable p c.args.thrown.0) c.core_class.ensures) ∙ c.if-assignable.true in
    ap (λ b. if b then None else below_initialisation p c.args.thrown.0 c.args.frames.now) told

pub returns : goal.returns
returns c =
    let p = c.args.program.now in
    let told : assignable p c.args.thrown.0 (core_class p "java/lang/Error") ≡ false = sym (c.assignable.ensures ∙ ap (assignable p c.args.thrown.0) c.core_class.ensures) ∙ c.if-assignable.false in
    subst (λ (x : Option (List Standing)). MatchOption c.below_initialisation.result (x ≡ None) (λ below. x ≡ Some below.now))
    (sym (ap (λ b. if b then None else below_initialisation p c.args.thrown.0 c.args.frames.now) told)) c.below_initialisation.ensures
