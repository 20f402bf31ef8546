use Rattle.std.proofs.Common.{◌≡◌}
use Rattle.std.specs.Prelude.{find}
use Rattle.vx_java.proofs.Walks.{chain_from}
use Rattle.vx_link.specs.Hierarchy.{is_among, superclasses}
use Rattle.vx_types.proofs.hierarchy.first_above.Given as goal

abbrev pub invariant-loop-left : goal.invariant-loop-left
invariant-loop-left l =
    find (λ c. is_among c (superclasses l.program l.other.0)) (superclasses l.program l.fn.class.0)
    ≡ find (λ c. is_among c (superclasses l.program l.other.0)) (chain_from l.program l.left l.next)

abbrev pub decreases-loop-left : goal.decreases-loop-left
decreases-loop-left l = l.left
