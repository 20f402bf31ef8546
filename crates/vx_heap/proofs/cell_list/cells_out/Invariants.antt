use Rattle.std.proofs.Common.{◌≡◌, ◌++◌, take}
use Rattle.std.specs.List.{flat_map}
use Rattle.vx_heap.specs.Cells.{cell_ids}
use Rattle.vx_heap.proofs.cell_list.cells_out.Given as goal

abbrev pub invariant-loop-cell : goal.invariant-loop-cell
invariant-loop-cell g l = l.ids.items ≡ l.initial.ids.items ++ flat_map cell_ids (take l.cell-index l.fn.cells)
