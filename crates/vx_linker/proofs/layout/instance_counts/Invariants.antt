use Rattle.std.proofs.Common.{◌≡◌, ◌++◌, drop, map, length}
use Rattle.vx_linker.specs.Cells.{instance_counts, instance_fields_in}
use Rattle.vx_linker.proofs.layout.instance_counts.Given as goal

abbrev pub invariant-loop-class : goal.invariant-loop-class
invariant-loop-class l =
    l.counts.items ++ map (λ c. length (instance_fields_in l.program c)) (drop l.class-index l.program.classes)
    ≡ instance_counts l.program
