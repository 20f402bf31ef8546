use Rattle.std.proofs.Common.{◌≡◌, drop}
use Rattle.vx_noted.specs.Noted.{below_initialisation}
use Rattle.vx_noted.proofs.wrapping.below_initialisation.Given as goal

abbrev pub invariant-loop-above : goal.invariant-loop-above
invariant-loop-above l = below_initialisation l.program l.thrown.0 l.frames ≡ below_initialisation l.program l.thrown.0 (drop l.above l.frames)
