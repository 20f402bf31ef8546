use Rattle.std.proofs.Common.{◌≡◌, ◌∙◌, ap, subst, ◌++◌, Bool, IfOk}
use Rattle.vx_ancestry.specs.Ancestors as places
use Rattle.vx_names.specs.Names.{place_of}
use Rattle.vx_link.specs.Tables.{names_of}
use Rattle.vx_linker.proofs.Cycles.{own_at, own_nowhere}
use Rattle.vx_linker.proofs.judging.is_own.Goals as goal

pub returns-in-Some : goal.returns-in-Some
returns-in-Some c =
    let all = c.args.files.now.classes.items ++ c.args.files.now.core.items in
    let P : Bool → Type 0 = λ own. IfOk c.is_own_ancestor.result (λ o. o ≡ own) in
    subst P
    (ap (λ rows. places.is_own_ancestor rows c.in-Some.place) c.requires ∙ own_at all c.args.class.now c.in-Some.place (c.in-Some.ensures ∙ ap (place_of (names_of all)) c.name_of.ensures))
    c.is_own_ancestor.ensures

pub returns-in-None : goal.returns-in-None
returns-in-None c =
    let all = c.args.files.now.classes.items ++ c.args.files.now.core.items in
    own_nowhere all c.args.class.now (c.in-None.ensures ∙ ap (place_of (names_of all)) c.name_of.ensures)
