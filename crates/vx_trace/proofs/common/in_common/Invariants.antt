use Rattle.vx_trace.proofs.Ends.{IsCommon}
use Rattle.vx_trace.proofs.common.in_common.Given as goal

abbrev pub invariant-loop-common : goal.invariant-loop-common
invariant-loop-common l = IsCommon l.above l.lines l.common
