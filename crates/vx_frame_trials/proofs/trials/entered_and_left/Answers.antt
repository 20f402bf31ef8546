use Rattle.std.proofs.Common.{arith}
use Rattle.vx_frame_trials.proofs.trials.entered_and_left.Goals as goal

pub uncovered-requires-clause-called : goal.uncovered-requires-clause-called
uncovered-requires-clause-called g c = let two = c.in_ok-group.ensures.depth in omega (arith, two)
