use Rattle.std.proofs.Common.{◌≡◌, Some, map, take}
use Rattle.vx_references.specs.Named.{class_of_entry}
use Rattle.vx_references.proofs.named.class_table.Given as goal

abbrev pub invariant-loop-class : goal.invariant-loop-class
invariant-loop-class l = l.table.items ≡ map (λ c. map (λ e. class_of_entry l.program c.pool (Some e)) c.pool.entries) (take l.class-index l.class-items)
