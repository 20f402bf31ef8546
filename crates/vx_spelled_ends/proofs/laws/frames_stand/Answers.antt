use Rattle.vx_spelled_ends.proofs.Runs.{frames_stay}
use Rattle.vx_spelled_ends.proofs.laws.frames_stand.Goals as goal

pub returns : goal.returns
returns c = frames_stay
