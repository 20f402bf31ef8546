use Rattle.std.proofs.Common.{length, ◌≤◌}
use Rattle.vx_reached.proofs.calls.Called.put_code.Given as goal

-- the position is within the code
abbrev pub invariant-loop-step : goal.invariant-loop-step
invariant-loop-step l = l.at ≤ length l.code.bytes
