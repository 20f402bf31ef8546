use Rattle.std.proofs.Common.{◌≡◌, length}
use Rattle.vx_configuration.specs.Configuration.{are_distinct}
use Rattle.vx_configuration.proofs.configuration.are_distinct.Given as goal

-- what is left decides
abbrev pub invariant-loop-left : goal.invariant-loop-left
invariant-loop-left l = are_distinct l.names ≡ are_distinct l.left

abbrev pub decreases-loop-left : goal.decreases-loop-left
decreases-loop-left l = length l.left
