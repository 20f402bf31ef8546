use Rattle.std.proofs.Common.{length}
use Rattle.vx_check.proofs.Reading.{ReadsOn}
use Rattle.vx_check.proofs.expected.expected_of.Given as goal

abbrev pub invariant-loop-line : goal.invariant-loop-line
invariant-loop-line l = ReadsOn l.names l.bytes l.expected.items l.rest l.number

abbrev pub decreases-loop-line : goal.decreases-loop-line
decreases-loop-line l = length l.rest
