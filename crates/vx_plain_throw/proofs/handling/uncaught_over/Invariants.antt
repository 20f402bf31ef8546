use Rattle.std.proofs.Common.{◌≡◌, drop, map, reverse}
use Rattle.vx_plain.specs.Views.{frame_of}
use Rattle.vx_plain_throw.specs.Passing.{uncaught_over}
use Rattle.vx_plain_throw.proofs.handling.uncaught_over.Given as goal

abbrev pub invariant-loop-above : goal.invariant-loop-above
invariant-loop-above l = uncaught_over l.program (reverse (map frame_of l.frames)) l.fn.thrown.0 ≡ uncaught_over l.program (drop l.above (reverse (map frame_of l.frames))) l.thrown.0
