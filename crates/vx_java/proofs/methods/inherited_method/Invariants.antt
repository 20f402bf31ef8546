use Rattle.std.proofs.Common.{◌≡◌}
use Rattle.vx_java.proofs.Walks.{chain_from}
use Rattle.vx_java.specs.Specific.{passes}
use Rattle.vx_link.specs.Hierarchy.{superclasses}
use Rattle.vx_link.specs.Resolution.{first_given, own_method}
use Rattle.vx_java.proofs.methods.inherited_method.Given as goal

abbrev pub invariant-loop-left : goal.invariant-loop-left
invariant-loop-left l =
    first_given (own_method l.program (passes l.among) l.sought.0 l.sought.1) (superclasses l.program l.fn.class.0)
    ≡ first_given (own_method l.program (passes l.among) l.sought.0 l.sought.1) (chain_from l.program l.left l.next)

abbrev pub decreases-loop-left : goal.decreases-loop-left
decreases-loop-left l = l.left
