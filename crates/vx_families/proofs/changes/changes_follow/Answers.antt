use Rattle.vx_families.proofs.ChangeLaws.{changes_follow}
use Rattle.vx_families.proofs.changes.changes_follow.Goals as goal

pub returns : goal.returns
returns g c = changes_follow
