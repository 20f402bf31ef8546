use Rattle.std.proofs.Common.{◌≡◌, drop}
use Rattle.vx_trace.specs.Shown.{behind_constructors}
use Rattle.vx_trace.proofs.shown.behind_constructors.Given as goal

abbrev pub invariant-loop-place : goal.invariant-loop-place
invariant-loop-place l = behind_constructors l.program l.class.0 l.frames ≡ behind_constructors l.program l.class.0 (drop l.place l.frames)
