use Rattle.std.proofs.Common.{length}
use Rattle.vx_doctor_trials.proofs.spots.is_in.Given as goal

abbrev pub decreases-loop-rest : goal.decreases-loop-rest
decreases-loop-rest l = length l.rest
