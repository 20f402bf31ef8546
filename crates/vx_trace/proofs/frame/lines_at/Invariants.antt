use Rattle.std.proofs.Common.{◌≡◌, map, take}
use Rattle.vx_trace.specs.TraceText.{line_at}
use Rattle.vx_trace.proofs.frame.lines_at.Given as goal

abbrev pub invariant-loop-frame : goal.invariant-loop-frame
invariant-loop-frame l = l.lines.items ≡ map (line_at l.origin.program.now l.origin.tables.now l.origin.files.now) (take l.frame-index l.frames)
