use Rattle.std.proofs.Common.{◌≡◌, ◌++◌, drop}
use Rattle.std.specs.Prelude.{None}
use Rattle.vx_trace.specs.Shown.{shown_below}
use Rattle.vx_trace.proofs.shown.shown_below.Given as goal

abbrev pub invariant-loop-place : goal.invariant-loop-place
invariant-loop-place l = l.shown.items ++ shown_below l.program l.above (drop l.place l.frames) ≡ shown_below l.program None l.frames
