use Rattle.vx_group.proofs.joins.+join_callers.Given as goal

abbrev pub decreases-join_callers : goal.decreases-join_callers
decreases-join_callers g l = l.depth
