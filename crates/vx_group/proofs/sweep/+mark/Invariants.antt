use Rattle.vx_group.proofs.sweep.+mark.Given as goal

abbrev pub decreases-mark : goal.decreases-mark
decreases-mark g l = l.depth
