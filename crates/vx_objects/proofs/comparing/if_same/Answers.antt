use Rattle.std.proofs.Common.{◌≡◌, ◌-◌, ◌<◌, ◌≤◌, ◌∙◌, ap, arith, length, sym}
use Rattle.std.proofs.lemmas.Result.{IfOk-weaker}
use Rattle.std.proofs.lemmas.Int.{to_z-of_z}
use Rattle.std.specs.Int.{w32}
use mir.Val.{of_z, to_z}
use Rattle.vx_arith.proofs.AttemptLaws.{given_short}
use Rattle.vx_families.proofs.Given.{IsGiven-extends, given_ready}
use Rattle.vx_families.proofs.Tops.{lifting2_cond}
use Rattle.vx_frame.specs.declared.frame.Frame.{Frame}
use Rattle.vx_group_states.specs.Answers.{answer_cmp}
use Rattle.vx_group_states.specs.Sites.{here}
use Rattle.vx_group_states.specs.Stands.{state_at}
use Rattle.vx_group_states.specs.declared.answer.Answer.TheVariants.{Illegal}
use Rattle.vx_java.specs.Jumps.{if_same}
use Rattle.vx_java.specs.declared.operation.Operation.TheVariants.{IfSame}
use Rattle.vx_list.specs.Places.{item_or}
use Rattle.vx_space.proofs.Spaces.{Extends-trans}
use Rattle.vx_value.specs.declared.slot.Slot.TheVariants.{Top}
use Rattle.vx_objects.specs.Answers.{compared}
use Rattle.vx_families.proofs.Operands.{few-attempts, made-attempts, operand_cond, operand_scope, two_made}
use Rattle.vx_objects.proofs.Rows.{compared_held, compared_none, compared_row}
use Rattle.vx_objects.proofs.comparing.if_same.Goals as goal

pub returns-then-len-lt2-clause-ok : goal.returns-then-len-lt2-clause-ok
returns-then-len-lt2-clause-ok g c =
    IfOk-weaker c.illegal.result _ _ (λ r' h'.
    let few : length c.args.group.top.stack.conds < 2 = rw (← c.top_frame.ensures, ← c.len.ensures) (omega arith) in
    few-attempts c.args.site.now (IfSame c.args.wanted c.args.offset) (λ h. if_same h c.args.wanted c.args.offset) c.args.heap.now c.args.group c.requires 2 _ few (λ h operands l. compared_none h c.args.wanted c.args.offset operands l) (h' _))
    c.illegal.ensures

pub spot_at-spot-requires : goal.spot_at-spot-requires
spot_at-spot-requires g c = rw c.top_frame-2.ensures (given_short c.args.site.now (IfSame c.args.wanted c.args.offset) _ c.args.heap.now c.args.group c.requires)

pub top_operand-requires : goal.top_operand-requires
top_operand-requires g c = rw (← c.top_frame.ensures, ← c.len.ensures) (omega arith)

pub second_operand-requires : goal.second_operand-requires
second_operand-requires g c = rw (← c.top_frame.ensures, ← c.len.ensures) (omega arith)

pub zip-requires-clause-first : goal.zip-requires-clause-first
zip-requires-clause-first g c = operand_cond _ c.args.group _ c.top_operand.result.now c.requires.is_group c.top_operand.ensures

pub zip-requires-clause-second : goal.zip-requires-clause-second
zip-requires-clause-second g c = operand_cond _ c.args.group _ c.second_operand.result.now c.requires.is_group c.second_operand.ensures

pub zip-requires-clause-scopes : goal.zip-requires-clause-scopes
zip-requires-clause-scopes g c = operand_scope _ c.args.group _ c.top_operand.result.now c.requires.is_group c.top_operand.ensures ∙ sym (operand_scope _ c.args.group _ c.second_operand.result.now c.requires.is_group c.second_operand.ensures)

pub carry_out-requires-clause-ready : goal.carry_out-requires-clause-ready
carry_out-requires-clause-ready g c =
    let operation = IfSame c.args.wanted c.args.offset in
    let some : 2 ≤ length c.args.group.top.stack.conds = rw (← c.top_frame.ensures, ← c.len.ensures) (omega arith) in
    let e = c.in_ok-answers.ensures.extends in
    given_ready c.args.site.now operation _ c.args.heap.now c.args.group 2 c.in_ok-answers.answers (IsGiven-extends c.args.site.now operation c.args.heap.now c.args.group e c.requires) (omega arith) some (rw (← c.group.view_is) c.group.invariant.1) (lifting2_cond answer_cmp _ _ _ _ c.in_ok-answers.answers c.in_ok-answers.ensures.ok) (c.in_ok-answers.ensures.scope ∙ operand_scope _ c.args.group _ c.top_operand.result.now c.requires.is_group c.top_operand.ensures)

pub carry_out-requires-clause-scope : goal.carry_out-requires-clause-scope
carry_out-requires-clause-scope g c = c.in_ok-answers.ensures.scope ∙ operand_scope _ c.args.group _ c.top_operand.result.now c.requires.is_group c.top_operand.ensures

pub returns-clause-extends : goal.returns-clause-extends
returns-clause-extends g c = Extends-trans c.in_ok-answers.ensures.extends c.carry_out.ensures.extends

pub returns-clause-ok : goal.returns-clause-ok
returns-clause-ok g c =
    IfOk-weaker c.carry_out.result _ _ (λ r' h'.
    let s0 = g.S.Space.sets c.args.space.now in
    let site = c.args.site.now in
    let heap = c.args.heap.now in
    let group = c.args.group in
    let wanted = c.args.wanted in
    let offset = c.args.offset in
    let spot = c.spot_at-spot.result in
    let same : to_z w32 (of_z w32 offset) ≡ offset = to_z-of_z w32 offset c.ranges.offset in
    let some : 2 ≤ length group.top.stack.conds = rw (← c.top_frame.ensures, ← c.len.ensures) (omega arith) in
    let position = c.spot_at-spot.ensures.position ∙ ap (λ (t : Frame _ _). t.position) c.top_frame-2.ensures in
    made-attempts site (IfSame wanted offset) (λ h. if_same h wanted offset) heap group c.requires 2 _ c.in_ok-answers.answers (λ slots. compared spot wanted offset (item_or slots 0 Top) (item_or slots 1 Top)) some c.in_ok-answers.ensures.extends c.carry_out.ensures.extends
    (two_made Illegal answer_cmp s0 _ group (length group.top.stack.conds - 1) (length group.top.stack.conds - 2) 0 1 c.top_operand.result.now c.second_operand.result.now (compared spot wanted offset) _ c.in_ok-answers.answers (λ s r a h. h ∙ ap (λ n. compared spot wanted n s r) same) c.requires.is_group c.top_operand.ensures c.second_operand.ensures (omega (arith, some)) (omega (arith, some)) c.in_ok-answers.ensures.ok)
    (λ sets d slots h. compared_held sets heap d spot wanted offset (item_or slots 0 Top) (item_or slots 1 Top))
    (λ tree d slots l h. compared_row s0 heap d (here site (state_at s0 heap tree group d)) spot wanted offset slots (record { code = c.spot_at-spot.ensures.code; position = position; size = c.spot_at-spot.ensures.size }) l h)
    h')
    c.carry_out.ensures.gives
