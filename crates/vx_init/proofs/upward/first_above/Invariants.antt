use Rattle.std.proofs.Common.{◌≡◌, ◌++◌}
use Rattle.vx_java.proofs.Walks.{chain_from}
use Rattle.vx_ready.specs.Initialising.{numbers_of}
use Rattle.vx_init.specs.Rising.{first_above}
use Rattle.vx_init.proofs.upward.first_above.Given as goal

abbrev pub invariant-loop-left : goal.invariant-loop-left
invariant-loop-left l = first_above l.program l.fn.class.0 l.fn.most ≡ numbers_of l.chain.items ++ chain_from l.program l.left l.next

abbrev pub decreases-loop-left : goal.decreases-loop-left
decreases-loop-left l = l.left
