use Rattle.std.proofs.Common.{length}
use Rattle.vx_report_reader.proofs.Progress.{IsReading}
use Rattle.vx_report_reader.proofs.reading.report_in.Given as goal

abbrev pub invariant-loop-text : goal.invariant-loop-text
invariant-loop-text l = IsReading l.bytes l.rest l.line l.stage

abbrev pub decreases-loop-text : goal.decreases-loop-text
decreases-loop-text l = length l.rest
