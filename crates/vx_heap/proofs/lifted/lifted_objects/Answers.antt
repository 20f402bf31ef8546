use Rattle.vx_heap.specs.Lifted.{IsLifted}
use Rattle.vx_initial_heap.proofs.Zips.{zip_read}
use Rattle.vx_heap.proofs.lifted.lifted_objects.Goals as goal

pub loop-object-preserved : goal.loop-object-preserved
loop-object-preserved g c = rw c.in_ok-push.ensures.items (zip_read (IsLifted c.args.scope) c.args.objects.now c.loop-object.made.items c.loop-object.object-index _ c.in_ok-lifted.field-0 c.loop-object.invariant c.loop-object-test.true c.in_ok-lifted.ensures)
