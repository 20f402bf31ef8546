use Rattle.std.proofs.Common.{◌∙◌, ap, take}
use Rattle.std.specs.List.{flat_map}
use Rattle.vx_heap.specs.Cells.{cell_ids}
use Rattle.vx_heap.proofs.PlainCells.{ids-plain}
use Rattle.vx_heap.proofs.cell_list.CellList.of.Goals as goal

pub invariant_of-result : goal.invariant_of-result
invariant_of-result g c h = ap (flat_map cell_ids) c.loop-slot.invariant ∙ ids-plain g.row.S.Denot (take c.loop-slot.slot-index c.args.slots.now)
