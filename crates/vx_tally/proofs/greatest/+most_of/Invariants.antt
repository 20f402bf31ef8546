use Rattle.std.proofs.Common.{◌-◌}
use Rattle.vx_tally.proofs.greatest.+most_of.Given as goal

abbrev pub decreases-most_of : goal.decreases-most_of
decreases-most_of g l = (g.S.Space.sets l.space.now).options - l.from
