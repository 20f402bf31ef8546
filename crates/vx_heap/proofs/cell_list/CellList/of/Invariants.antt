use Rattle.std.proofs.Common.{◌≡◌, map, take}
use Rattle.vx_heap.specs.declared.cell_list.Cell.TheVariants.{Plain}
use Rattle.vx_heap.proofs.cell_list.CellList.of.Given as goal

abbrev pub invariant-loop-slot : goal.invariant-loop-slot
invariant-loop-slot g l = l.cells.items ≡ map Plain (take l.slot-index l.slots)
