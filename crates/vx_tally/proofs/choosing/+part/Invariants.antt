use Rattle.std.proofs.Common.{◌-◌}
use Rattle.vx_tally.proofs.choosing.+part.Given as goal

abbrev pub decreases-part : goal.decreases-part
decreases-part g l = (g.S.Space.sets l.space.now).options - l.from
