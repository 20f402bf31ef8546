use Rattle.vx_joined.proofs.Runs.{joined_runs}
use Rattle.vx_joined.proofs.laws.joins_are_runs.Goals as goal

pub returns : goal.returns
returns c = joined_runs
