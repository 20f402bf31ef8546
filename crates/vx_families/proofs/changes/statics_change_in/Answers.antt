use Rattle.vx_families.proofs.ChangeLaws.{statics_change_in}
use Rattle.vx_families.proofs.changes.statics_change_in.Goals as goal

pub returns : goal.returns
returns g c = statics_change_in
