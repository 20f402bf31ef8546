use Rattle.std.proofs.Common.{Bool, List, ap, length, map, sym, ℕ, ◌∙◌}
use Rattle.std.proofs.lemmas.List.{length-map}
use Rattle.std.specs.Prelude.{find, ◌==◌}
use Rattle.vx_java.proofs.MemberNumbers.{beyond, both_empty, full_descriptor, full_name, nowhere, only_past, there}
use Rattle.vx_java.specs.MemberNumbers.{is_past, numbers_between}
use Rattle.vx_java.proofs.between.first_between.Goals as goal
use Rattle.vx_java.proofs.between.first_between.Goals.{else-is_empty-via-then-is_empty+else-is_empty-2, else-is_empty-via-else-is_empty}

abbrev is_empty_text : List ℕ → Bool
is_empty_text text = length text == 0

pub returns-then-found-last : goal.returns-then-found-last
returns-then-found-last g c =
    there (map g.M.Member.signature c.args.members.now) c.args.sought.now.0 c.args.sought.now.1 c.args.from c.args.last c.in-Some.found
    (c.in-Some.ensures.0 c.if-found-last.true) c.if-found-last.true

pub returns-else-found-last : goal.returns-else-found-last
returns-else-found-last g c =
    beyond (map g.M.Member.signature c.args.members.now) c.args.sought.now.0 c.args.sought.now.1 c.args.from c.args.last (c.in-Some.ensures.1 c.if-found-last.false)

pub returns-then-is_empty-2 : goal.returns-then-is_empty-2
returns-then-is_empty-2 g c =
    c.first_past.ensures
    ∙ ap (λ n. find (is_past n) (numbers_between c.args.from c.args.last)) (c.len.ensures ∙ sym (length-map c.args.members.now g.M.Member.signature))
    ∙ only_past (map g.M.Member.signature c.args.members.now) c.args.sought.now.0 c.args.sought.now.1 c.args.from c.args.last c.in-None.ensures
    (both_empty c.args.sought.now.0 c.args.sought.now.1 (sym c.if-is_empty.true ∙ c.is_empty.ensures ∙ ap is_empty_text c.name.ensures) (sym c.if-is_empty-2.true ∙ c.is_empty-then-is_empty.ensures ∙ ap is_empty_text c.descriptor.ensures))

pub returns-else-is_empty : goal.returns-else-is_empty
returns-else-is_empty g c =
    nowhere (map g.M.Member.signature c.args.members.now) c.args.sought.now.0 c.args.sought.now.1 c.args.from c.args.last c.in-None.ensures
    (elim c.else-is_empty.branch [
      | else-is_empty-via-then-is_empty+else-is_empty-2 w ↦ full_descriptor c.args.sought.now.0 c.args.sought.now.1 (sym w.if-is_empty-2.false ∙ w.is_empty-then-is_empty.ensures ∙ ap is_empty_text w.descriptor.ensures)
      | else-is_empty-via-else-is_empty w ↦ full_name c.args.sought.now.0 c.args.sought.now.1 (sym w.if-is_empty.false ∙ c.is_empty.ensures ∙ ap is_empty_text c.name.ensures)
    ])
