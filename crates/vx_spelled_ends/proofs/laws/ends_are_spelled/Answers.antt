use Rattle.vx_spelled_ends.proofs.Runs.{run_spelled}
use Rattle.vx_spelled_ends.proofs.laws.ends_are_spelled.Goals as goal

pub returns : goal.returns
returns c = run_spelled
