use Rattle.vx_heap.specs.Lifted.{IsSame}
use Rattle.vx_initial_heap.proofs.Zips.{zip_step}
use Rattle.vx_heap.proofs.lifted.same_values.Goals as goal

pub loop-value-preserved : goal.loop-value-preserved
loop-value-preserved g c = rw c.in_ok-push.ensures.items (zip_step (IsSame g.T.Ord.cmp (g.S.Space.sets c.args.space.now) c.args.scope) c.args.values.now c.loop-value.conds.items c.loop-value.value-index c.value-item.result c.in_ok-same.field-0 c.loop-value.invariant c.loop-value-test.true c.value-item.is c.in_ok-same.ensures)
