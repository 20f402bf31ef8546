use Rattle.std.proofs.Common.{◌≡◌, ◌-◌, drop}
use Rattle.vx_java.specs.FirstObjects.{cells_of_chain}
use Rattle.vx_plain_tables.proofs.CellLaws.{numbers}
use Rattle.vx_plain_tables.specs.Cells.{values_in}
use Rattle.vx_plain_tables.proofs.cells.new_slots.Given as goal

abbrev pub invariant-loop-below : goal.invariant-loop-below
invariant-loop-below l = values_in l.slots.items ≡ cells_of_chain l.fn.program (numbers (drop (l.count - l.below) l.chain.items))
