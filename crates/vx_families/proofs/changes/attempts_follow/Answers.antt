use Rattle.vx_families.proofs.ChangeLaws.{attempts_follow}
use Rattle.vx_families.proofs.changes.attempts_follow.Goals as goal

pub returns : goal.returns
returns g c = attempts_follow
