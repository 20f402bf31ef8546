use Rattle.vx_heap.proofs.CellWrites.{ids_set}
use Rattle.vx_heap.proofs.cell_list.CellList.set.Goals as goal

pub invariant_of-self : goal.invariant_of-self
invariant_of-self g c h = ids_set c.self.inside.cells.items c.args.place c.args.cell (c.self.invariant (c.may_differ-self-inside.ensures.others h)) (c.may_differ-self-inside.ensures.cell h)
