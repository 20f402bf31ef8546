use Rattle.vx_families.proofs.ChangeLaws.{outcomes_stay}
use Rattle.vx_families.proofs.changes.outcomes_stay.Goals as goal

pub returns : goal.returns
returns g c = outcomes_stay
