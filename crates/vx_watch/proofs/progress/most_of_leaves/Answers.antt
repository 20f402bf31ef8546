use Rattle.vx_watch.proofs.Greatest.{max_step}
use Rattle.vx_watch.proofs.progress.most_of_leaves.Goals as goal

pub loop-leaf-preserved : goal.loop-leaf-preserved
loop-leaf-preserved g c = rw c.max-most.ensures (max_step (λ leaf. leaf.value) c.args.from c.args.leaves.now c.loop-leaf.leaf-index c.leaf-item.result c.loop-leaf.most c.loop-leaf-test.true c.leaf-item.is c.loop-leaf.invariant)
