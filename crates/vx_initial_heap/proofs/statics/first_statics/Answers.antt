use Rattle.vx_initial_heap.specs.First.{IsFirstStatic}
use Rattle.vx_initial_heap.proofs.Zips.{zip_step}
use Rattle.vx_initial_heap.proofs.statics.first_statics.Goals as goal

pub loop-field-preserved : goal.loop-field-preserved
loop-field-preserved c = rw c.in_ok-push.ensures.items (zip_step (IsFirstStatic c.args.program.now) c.as_slice-field-items.result.now c.loop-field.statics.items c.loop-field.field-index c.field-item.result c.first_static.result c.loop-field.invariant c.loop-field-test.true c.field-item.is c.first_static.ensures)
