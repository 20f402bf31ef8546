use Rattle.std.proofs.Common.{◌++◌, ◌≡◌}
use Rattle.vx_java.proofs.Walks.{chain_from}
use Rattle.vx_may_end.specs.Lacks.{of_initialisation}
use Rattle.vx_may_end.proofs.Putting.{blocking_all}
use Rattle.vx_may_end.proofs.classes.put_initialisation.Given as goal

-- what is put, before what the classes lack that are left
abbrev pub invariant-loop-left : goal.invariant-loop-left
invariant-loop-left l =
    l.out.items ++ blocking_all l.program (chain_from l.program l.left l.next) ≡ l.initial.out.items ++ of_initialisation l.program l.fn.class.0

abbrev pub decreases-loop-left : goal.decreases-loop-left
decreases-loop-left l = l.left
