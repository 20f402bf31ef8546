use Rattle.std.proofs.Common.{◌≡◌, [], fold, take}
use Rattle.vx_initial_heap.specs.Literals.{with_class}
use Rattle.vx_initial_heap.proofs.literals.gathered.Given as goal

abbrev pub invariant-loop-class : goal.invariant-loop-class
invariant-loop-class l = l.literals ≡ fold with_class [] (take l.class-index l.classes)
