use Rattle.std.proofs.Common.{◌∙◌, ap}
use Rattle.std.specs.List.{flat_map}
use Rattle.vx_heap.specs.Cells.{cell_ids}
use Rattle.vx_heap.proofs.cell_list.CellList.push.Goals as goal

pub invariant_of-self : goal.invariant_of-self
invariant_of-self g c h = ap (flat_map cell_ids) c.in_err-push.ensures.items ∙ c.self.invariant (c.may_differ-self-inside.ensures.others h)
