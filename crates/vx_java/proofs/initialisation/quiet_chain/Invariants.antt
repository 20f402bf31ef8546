use Rattle.std.proofs.Common.{◌≡◌}
use Rattle.vx_java.proofs.Chains.{quiet_on}
use Rattle.vx_java.proofs.Walks.{chain_from}
use Rattle.vx_java.specs.Initialisation.{quiet_chain}
use Rattle.vx_java.proofs.initialisation.quiet_chain.Given as goal

abbrev pub invariant-loop-left : goal.invariant-loop-left
invariant-loop-left l =
    quiet_chain l.program l.states l.fn.class.0 ≡ quiet_on l.program l.states (chain_from l.program l.left l.next)

abbrev pub decreases-loop-left : goal.decreases-loop-left
decreases-loop-left l = l.left
