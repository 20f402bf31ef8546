use Rattle.vx_heap.proofs.CellWrites.{Holds, read_inside}
use Rattle.vx_heap.proofs.cell_list.value_inside.Goals as goal

pub returns-in_ok-value-in-Differs-clause-ok : goal.returns-in_ok-value-in-Differs-clause-ok
returns-in_ok-value-in-Differs-clause-ok g c =
    let holds : Holds c.args.cell.now c.deref.result.now = rw c.in-Differs.is c.deref.ensures in
    read_inside _ _ c.args.path c.args.cell.now c.deref.result.now c.in_ok-value-in-Differs.value holds c.requires.cell c.in_ok-value-in-Differs.ensures.ok
