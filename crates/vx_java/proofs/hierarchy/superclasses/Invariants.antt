use Rattle.std.proofs.Common.{◌≡◌, ◌++◌, map}
use Rattle.vx_java.proofs.Walks.{chain_from}
use Rattle.vx_java.specs.Ids.{as_class}
use Rattle.vx_link.specs.Hierarchy.{superclasses}
use Rattle.vx_java.proofs.hierarchy.superclasses.Given as goal

abbrev pub invariant-loop-left : goal.invariant-loop-left
invariant-loop-left l = map as_class (superclasses l.program l.fn.class.0) ≡ l.chain.items ++ map as_class (chain_from l.program l.left l.next)

abbrev pub decreases-loop-left : goal.decreases-loop-left
decreases-loop-left l = l.left
