use Rattle.std.proofs.Common.{◌≡◌, map, take}
use Rattle.vx_initial_heap.specs.Literals.{object_among}
use Rattle.vx_initial_heap.proofs.literals.literal_table.Given as goal

abbrev pub invariant-loop-class : goal.invariant-loop-class
invariant-loop-class l = l.table.items ≡ map (λ c. map (object_among l.listed c.pool) c.pool.entries) (take l.class-index l.class-items)
