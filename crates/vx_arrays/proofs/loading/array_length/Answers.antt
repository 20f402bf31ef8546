use Rattle.std.proofs.Common.{◌≤◌, ◌<◌, arith, length}
use Rattle.std.proofs.lemmas.Result.{IfOk-weaker}
use Rattle.vx_arrays.proofs.Fewer.{few-attempts}
use Rattle.vx_families.proofs.Given.{IsGiven-extends, given_ready}
use Rattle.vx_java.specs.Arrays.{array_length}
use Rattle.vx_java.specs.declared.operation.Operation.TheVariants.{Length}
use Rattle.vx_ready.proofs.Given.{IsRunning-given}
use Rattle.vx_space.proofs.Spaces.{Extends-trans}
use Rattle.vx_arrays.proofs.Loads.{length-attempts, none_to_measure}
use Rattle.vx_arrays.proofs.loading.array_length.Goals as goal

pub returns-then-len-eq0-clause-ok : goal.returns-then-len-eq0-clause-ok
returns-then-len-eq0-clause-ok g c =
    IfOk-weaker c.illegal.result _ _ (λ r' h'. few-attempts c.args.site.now Length array_length c.args.heap.now c.args.group c.top_frame.result.now c.len.result 1 _ c.requires c.top_frame.ensures c.len.ensures (omega arith) none_to_measure (h' _))
    c.illegal.ensures

pub lengths_at-requires-clause-running : goal.lengths_at-requires-clause-running
lengths_at-requires-clause-running g c = IsRunning-given c.args.site.now Length _ c.args.heap.now c.args.group c.requires

pub lengths_at-requires-clause-operand : goal.lengths_at-requires-clause-operand
lengths_at-requires-clause-operand g c = rw (← c.top_frame.ensures, ← c.len.ensures) (omega arith)

pub lengths_at-requires-clause-few : goal.lengths_at-requires-clause-few
lengths_at-requires-clause-few g c = rw (← c.group.view_is) c.group.invariant.1

pub carry_out-requires-clause-ready : goal.carry_out-requires-clause-ready
carry_out-requires-clause-ready g c =
    let site = c.args.site.now in
    let enough : 1 ≤ length c.args.group.top.stack.conds = rw (← c.top_frame.ensures, ← c.len.ensures) (omega arith) in
    given_ready site Length _ c.args.heap.now c.args.group 1 c.in_ok-answers.answers (IsGiven-extends site Length c.args.heap.now c.args.group c.in_ok-answers.ensures.extends c.requires) (omega arith) enough (rw (← c.group.view_is) c.group.invariant.1) c.in_ok-answers.ensures.cond c.in_ok-answers.ensures.scope

pub carry_out-requires-clause-scope : goal.carry_out-requires-clause-scope
carry_out-requires-clause-scope g c = c.in_ok-answers.ensures.scope

pub returns-clause-extends : goal.returns-clause-extends
returns-clause-extends g c = Extends-trans c.in_ok-answers.ensures.extends c.carry_out.ensures.extends

pub returns-clause-ok : goal.returns-clause-ok
returns-clause-ok g c =
    IfOk-weaker c.carry_out.result _ _ (λ r' h'.
    let enough : 0 < length c.args.group.top.stack.conds = rw (← c.top_frame.ensures, ← c.len.ensures) (omega arith) in
    length-attempts c.args.site.now c.args.heap.now c.args.group c.in_ok-answers.answers _ c.in_ok-answers.ensures.extends c.carry_out.ensures.extends c.requires enough c.in_ok-answers.ensures.at h')
    c.carry_out.ensures.gives
