use Rattle.std.proofs.Common.{◌-◌}
use Rattle.vx_bdd_tools.proofs.numbering.+number_of.Given as goal

abbrev pub decreases-number_of : goal.decreases-number_of
decreases-number_of g l = (g.S.Space.sets l.space.now).options - l.first
