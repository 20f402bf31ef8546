use Rattle.std.proofs.Common.{◌-◌}
use Rattle.vx_tally.proofs.reached.+reached.Given as goal

abbrev pub decreases-reached : goal.decreases-reached
decreases-reached g l = (g.S.Space.sets l.space.now).options - l.from
