use Rattle.std.proofs.Common.{refl}
use Rattle.vx_throw.proofs.throwing.thrown_below.Goals as goal

pub returns-clause-below : goal.returns-clause-below
returns-clause-below g c = (refl, rw c.in_ok-group.ensures.uncovered.top at c.in_ok-group.ensures.uncovered)
