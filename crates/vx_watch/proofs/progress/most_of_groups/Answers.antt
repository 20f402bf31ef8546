use Rattle.vx_watch.proofs.Greatest.{attempts_step}
use Rattle.vx_watch.proofs.progress.most_of_groups.Goals as goal

pub loop-group-preserved : goal.loop-group-preserved
loop-group-preserved g c = rw (c.most_of_leaves-most.ensures, c.leaves.ensures, c.attempts.ensures) (attempts_step c.args.groups.now c.loop-group.group-index c.group-item.result c.loop-group.most c.loop-group-test.true c.group-item.is c.loop-group.invariant)
