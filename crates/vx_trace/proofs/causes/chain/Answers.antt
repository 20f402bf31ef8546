use Rattle.std.proofs.Common.{◌≡◌, ◌+◌, ◌-◌, suc, arith, sym, ◌∙◌}
use Rattle.vx_plain.specs.Views.{state_of}
use Rattle.vx_trace.proofs.Chained.{bound_is, most_told, no_cause, one_told, told_before}
use Rattle.vx_trace.specs.TraceText.{cause_bound, chain}
use Rattle.vx_trace.proofs.causes.chain.Goals as goal

pub returns-in_default : goal.returns-in_default
returns-in_default c =
    let s = state_of c.args.state.now in
    let left = 1023 - c.loop-cause._cause in
    let e : cause_bound ≡ c.loop-cause._cause + suc left = omega (arith, bound_is, c.loop-cause-test.true) in
    no_cause s cause_bound (chain s c.args.object) c.loop-cause.told.items c.loop-cause.last c.loop-cause._cause left c.in_ok-value.value c.loop-cause.invariant e c.in_ok-value.ensures c.in_default.not-Ref

pub returns-then-is_told : goal.returns-then-is_told
returns-then-is_told c =
    let s = state_of c.args.state.now in
    let left = 1023 - c.loop-cause._cause in
    let e : cause_bound ≡ c.loop-cause._cause + suc left = omega (arith, bound_is, c.loop-cause-test.true) in
    told_before s cause_bound (chain s c.args.object) c.loop-cause.told.items c.loop-cause.last c.loop-cause._cause left c.in_ok-value.value c.loop-cause.invariant e c.in_ok-value.ensures c.in-Ref.cause c.in-Ref.is
    (rw c.as_slice.ensures.value at (sym c.is_told.ensures ∙ c.if-is_told.true))

pub loop-cause-preserved : goal.loop-cause-preserved
loop-cause-preserved c =
    let s = state_of c.args.state.now in
    one_told s cause_bound (chain s c.args.object) c.loop-cause.told.items c.push-in-loop-cause.new.self.items c.loop-cause.last c.loop-cause._cause c.in-Ref.cause c.in_ok-value.value c.loop-cause.invariant c.in_ok-value.ensures c.in-Ref.is
    (rw c.as_slice.ensures.value at (sym c.is_told.ensures ∙ c.if-is_told.false)) c.in_ok-push-2.ensures.items

pub returns : goal.returns
returns c =
    let s = state_of c.args.state.now in
    most_told s cause_bound (chain s c.args.object) c.loop-cause.told.items c.loop-cause.last c.loop-cause._cause (omega (arith, bound_is, c.loop-cause-test.false, c.loop-cause.auto._cause-end)) c.loop-cause.invariant
