use Rattle.std.proofs.Common.{◌≡◌, ◌++◌, drop}
use Rattle.vx_link.specs.Faults.{cycle}
use Rattle.vx_linker.proofs.judging.first_cycle.Given as goal

abbrev pub invariant-loop-class : goal.invariant-loop-class
invariant-loop-class l =
    cycle (l.files.classes.items ++ l.files.core.items) l.files.classes.items ≡ cycle (l.files.classes.items ++ l.files.core.items) (drop l.class-index l.files.classes.items)
