use Rattle.std.proofs.Common.{length, ◌≡◌}
use Rattle.vx_refusals.specs.Slips.{has_minus}
use Rattle.vx_refusals.proofs.slips.has_minus.Given as goal

abbrev pub invariant-loop-rest : goal.invariant-loop-rest
invariant-loop-rest l = has_minus l.line ≡ has_minus l.rest

abbrev pub decreases-loop-rest : goal.decreases-loop-rest
decreases-loop-rest l = length l.rest
