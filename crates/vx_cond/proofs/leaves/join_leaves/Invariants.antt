use Rattle.std.proofs.Common.{◌+◌, ◌-◌, length}
use Rattle.vx_cond.proofs.LeafLoops.{IsMerging}
use Rattle.vx_cond.proofs.leaves.join_leaves.Given as goal

abbrev pub invariant-merging : goal.invariant-merging
invariant-merging g l = IsMerging g.T.Ord.cmp (g.S.Space.sets l.fn.space) (g.S.Space.sets l.space) l.leaves l.others l.i l.j l.made.items

abbrev pub decreases-merging : goal.decreases-merging
decreases-merging g l = (length l.leaves - l.i) + (length l.others - l.j)
