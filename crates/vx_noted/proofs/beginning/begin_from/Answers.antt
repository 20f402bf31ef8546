use Rattle.vx_noted.proofs.Underway.{over_at_start}
use Rattle.vx_noted.proofs.beginning.begin_from.Goals as goal

pub returns-in-Some : goal.returns-in-Some
returns-in-Some c = over_at_start _ _ _ _ _ c.in-Some.is c.in_ok-ended.ensures

pub returns : goal.returns
returns c = (rw c.in_default.is at c.in_ok-ended.ensures, c.in_ok-tables.ensures)
