use Rattle.std.proofs.Common.{◌∙◌, ap}
use Rattle.std.specs.List.{flat_map}
use Rattle.vx_heap.specs.Cells.{cell_ids}
use Rattle.vx_heap.proofs.PlainCells.{ids-filled}
use Rattle.vx_heap.proofs.cell_list.CellList.filled.Goals as goal

pub invariant_of-result : goal.invariant_of-result
invariant_of-result g c h = ap (flat_map cell_ids) c.loop-cell.invariant ∙ ids-filled g.row.S.Denot c.loop-cell._cell c.args.slot
