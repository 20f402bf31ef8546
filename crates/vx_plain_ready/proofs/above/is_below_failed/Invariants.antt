use Rattle.std.proofs.Common.{◌≡◌}
use Rattle.vx_java.proofs.Walks.{chain_from}
use Rattle.vx_java.specs.Initialisation.{is_below_failed}
use Rattle.vx_plain_ready.proofs.Laws.{failed_on}
use Rattle.vx_plain_ready.proofs.above.is_below_failed.Given as goal

abbrev pub invariant-loop-left : goal.invariant-loop-left
invariant-loop-left l = is_below_failed l.program l.inits l.fn.class.0 ≡ failed_on l.inits (chain_from l.program l.left l.next)

abbrev pub decreases-loop-left : goal.decreases-loop-left
decreases-loop-left l = l.left
