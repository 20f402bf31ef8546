use Rattle.std.proofs.Common.{◌≡◌}
use Rattle.std.specs.Prelude.{replicate}
use Rattle.vx_heap.specs.declared.cell_list.Cell.TheVariants.{Plain}
use Rattle.vx_heap.proofs.cell_list.CellList.filled.Given as goal

abbrev pub invariant-loop-cell : goal.invariant-loop-cell
invariant-loop-cell g l = l.cells.items ≡ replicate l._cell (Plain l.slot)
