use Rattle.vx_watch.proofs.Greatest.{max_step}
use Rattle.vx_watch.proofs.progress.most_spent.Goals as goal

pub loop-shared-preserved : goal.loop-shared-preserved
loop-shared-preserved g c = rw c.max-most.ensures (max_step (λ shared. shared.value) c.args.from c.args.spent.now c.loop-shared.shared-index c.shared-item.result c.loop-shared.most c.loop-shared-test.true c.shared-item.is c.loop-shared.invariant)
