use Rattle.vx_group_laws.proofs.KeepLaws.{IsGroupOf-kept}
use Rattle.vx_group_laws.proofs.laws.groups_are_kept.Goals as goal

pub returns : goal.returns
returns g c = IsGroupOf-kept
