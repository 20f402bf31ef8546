use Rattle.vx_types.proofs.Ranks.{ranks_are_ranked}
use Rattle.vx_types.proofs.law.ranks_are_ranked.Goals as goal

pub returns : goal.returns
returns c = ranks_are_ranked
