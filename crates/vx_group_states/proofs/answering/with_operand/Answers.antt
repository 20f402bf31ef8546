use Rattle.std.proofs.Common.{◌≡◌, ◌∙◌, ap, arith, length, ◌++◌, ◌∷◌, [], sym}
use Rattle.std.proofs.lemmas.List.{length-append}
use Rattle.vx_value.specs.Slot.{slot_cmp}
use Rattle.vx_cond.specs.Slots.{slot_at}
use Rattle.vx_cond.proofs.RowSteps.{IsRow-push}
use Rattle.vx_frame.proofs.FrameLaws.{IsFrame-stack}
use Rattle.vx_group.proofs.GroupLaws.{IsGroup-one_scope, IsGroup-top}
use Rattle.vx_group_states.proofs.AnswerLaws.{operands_at-push}
use Rattle.vx_group_states.proofs.SettleLaws.{stack_scope}
use Rattle.vx_group_states.proofs.answering.with_operand.Goals as goal

pub drop_operands-requires-clause-row : goal.drop_operands-requires-clause-row
drop_operands-requires-clause-row g c = rw c.take_top-below.ensures (IsFrame-stack _ c.args.group.top (IsGroup-top _ c.args.group c.requires.group))

pub put_top-requires-clause-scope : goal.put_top-requires-clause-scope
put_top-requires-clause-scope g c = rw c.take_top-below.ensures (IsGroup-one_scope _ c.args.group c.requires.group)

pub put_top-requires-clause-operands : goal.put_top-requires-clause-operands
put_top-requires-clause-operands g c =
    let longer : length c.push.new.self.conds ≡ length (c.drop_operands.new.stack.conds ++ c.args.value ∷ []) = ap (λ r. length r.conds) c.in_ok-push.ensures.ok in
    let dropped = rw c.take_top-below.ensures at c.drop_operands.ensures.length in
    omega (arith, longer, length-append c.drop_operands.new.stack.conds (c.args.value ∷ []), dropped, c.requires.few)

pub returns-clause-row : goal.returns-clause-row
returns-clause-row g c =
    let scope = rw c.take_top-below.ensures at c.drop_operands.ensures.scope in
    rw (c.put_top.ensures, c.in_ok-push.ensures.ok) (IsRow-push slot_cmp _ c.drop_operands.new.stack c.args.value c.drop_operands.ensures.row c.requires.value (c.requires.scope ∙ sym (scope ∙ stack_scope _ c.args.group c.requires.group)))

pub returns-clause-scope : goal.returns-clause-scope
returns-clause-scope g c =
    let scope = rw c.take_top-below.ensures at c.drop_operands.ensures.scope in
    rw (c.put_top.ensures, c.in_ok-push.ensures.ok) (scope ∙ stack_scope _ c.args.group c.requires.group)

pub returns-clause-at : goal.returns-clause-at
returns-clause-at g c = λ d.
    let dropped = rw c.take_top-below.ensures at (c.drop_operands.ensures.at d) in
    rw (c.put_top.ensures, c.in_ok-push.ensures.ok) (operands_at-push (g.S.Space.sets c.args.space.now) c.drop_operands.new.stack c.args.value d ∙ ap (λ xs. slot_at (g.S.Space.sets c.args.space.now) c.args.value d ∷ xs) dropped)
