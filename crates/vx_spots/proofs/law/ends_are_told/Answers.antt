use Rattle.vx_spots.proofs.Told.{ends_told}
use Rattle.vx_spots.proofs.law.ends_are_told.Goals as goal

pub returns : goal.returns
returns c = ends_told c.all_listed.ensures
