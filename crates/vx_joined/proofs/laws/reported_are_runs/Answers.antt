use Rattle.vx_joined.proofs.Runs.{reported_runs}
use Rattle.vx_joined.proofs.laws.reported_are_runs.Goals as goal

pub returns : goal.returns
returns c = reported_runs
