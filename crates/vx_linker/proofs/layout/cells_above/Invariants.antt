use Rattle.std.proofs.Common.{◌≡◌, ◌++◌, drop, map, option_map}
use Rattle.vx_link.specs.Hierarchy.{chain_within}
use Rattle.vx_link.specs.Linked.{cell_count}
use Rattle.vx_linker.proofs.layout.cells_above.Given as goal

abbrev pub invariant-loop-class : goal.invariant-loop-class
invariant-loop-class l =
    l.above.items ++ map (λ c. cell_count l.program (chain_within l.program l.steps (option_map (λ s. s.0) c.superclass))) (drop l.class-index l.program.classes)
    ≡ map (λ c. cell_count l.program (chain_within l.program l.steps (option_map (λ s. s.0) c.superclass))) l.program.classes
