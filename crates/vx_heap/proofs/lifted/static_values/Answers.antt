use Rattle.vx_heap.proofs.Throughout.{IsLiftingStatics-step}
use Rattle.vx_heap.proofs.lifted.static_values.Goals as goal

pub loop-first-preserved : goal.loop-first-preserved
loop-first-preserved g c = rw c.in_ok-push.ensures.items (IsLiftingStatics-step c.args.scope c.args.statics.now c.loop-first.first-index c.loop-first.conds.items _ c.in_ok-static_value.field-0 c.requires.known c.loop-first-test.true c.loop-first.invariant c.in_ok-static_value.ensures.extends c.in_ok-static_value.ensures.ok)
