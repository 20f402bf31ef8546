use Rattle.std.proofs.Common.{◌∙◌, ◌≤◌, ◌<◌, arith, length}
use Rattle.std.proofs.lemmas.Result.{IfOk-weaker}
use Rattle.vx_space.proofs.Spaces.{Extends-trans}
use Rattle.vx_frame.proofs.FrameLaws.{IsFrame-stack}
use Rattle.vx_group.proofs.GroupLaws.{IsGroup-extends, IsGroup-top}
use Rattle.vx_group_states.proofs.SettleLaws.{stack_scope}
use Rattle.vx_arith.proofs.OperandLaws.{few-gives, ready_for, top_two-gives}
use Rattle.vx_arith.proofs.operands.on_top_two.Goals as goal

pub returns-then-len-lt2-clause-gives : goal.returns-then-len-lt2-clause-gives
returns-then-len-lt2-clause-gives g c =
    IfOk-weaker c.illegal.result _ _ (λ r' h'.
    let few : length c.top_frame-top.result.now.stack.conds < 2 = omega arith in
    λ heap zero. few-gives c.args.site.now _ c.args.group c.top_frame-top.result.now c.args.operation _ c.requires.two c.top_frame-top.ensures few (h' _) heap)
    c.illegal.ensures

pub answers_of_top_two-requires-clause-row : goal.answers_of_top_two-requires-clause-row
answers_of_top_two-requires-clause-row g c = rw c.top_frame-top.ensures (IsFrame-stack _ c.args.group.top (IsGroup-top _ c.args.group c.requires.group))

pub carry_out-requires-clause-ready : goal.carry_out-requires-clause-ready
carry_out-requires-clause-ready g c =
    let scope = (rw c.top_frame-top.ensures at c.in_ok-answers.ensures.scope) ∙ stack_scope _ c.args.group c.requires.group in
    let enough : 2 ≤ length c.top_frame-top.result.now.stack.conds = omega arith in
    ready_for c.args.site.now _ c.args.group c.top_frame-top.result.now 2 c.in_ok-answers.answers (IsGroup-extends c.in_ok-answers.ensures.extends c.args.group c.requires.group) c.requires.short (omega arith) c.top_frame-top.ensures enough (rw (← c.group.view_is) c.group.invariant.1) c.in_ok-answers.ensures.cond scope

pub carry_out-requires-clause-scope : goal.carry_out-requires-clause-scope
carry_out-requires-clause-scope g c = (rw c.top_frame-top.ensures at c.in_ok-answers.ensures.scope) ∙ stack_scope _ c.args.group c.requires.group

pub returns-clause-extends : goal.returns-clause-extends
returns-clause-extends g c = Extends-trans c.in_ok-answers.ensures.extends c.carry_out.ensures.extends

pub returns-clause-gives : goal.returns-clause-gives
returns-clause-gives g c =
    IfOk-weaker c.carry_out.result _ _ (λ r' h'.
    let enough : 2 ≤ length c.top_frame-top.result.now.stack.conds = omega arith in
    top_two-gives c.args.site.now _ c.args.group c.top_frame-top.result.now c.spot_at-spot.result c.args.by_zero c.args.operation c.in_ok-answers.answers _ c.in_ok-answers.ensures.extends c.requires.group c.requires.two c.top_frame-top.ensures (record { is_spot = record { code = c.spot_at-spot.ensures.code; position = c.spot_at-spot.ensures.position; size = c.spot_at-spot.ensures.size }; enough = enough; at = c.in_ok-answers.ensures.at }) h')
    c.carry_out.ensures.gives
