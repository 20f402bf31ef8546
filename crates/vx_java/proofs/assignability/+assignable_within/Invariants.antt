use Rattle.vx_java.proofs.assignability.+assignable_within.Given as goal

abbrev pub decreases-assignable_within : goal.decreases-assignable_within
decreases-assignable_within l = l.dimensions
