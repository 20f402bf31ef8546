use Rattle.vx_heap.proofs.CellWrites.{Holds}
use Rattle.vx_heap.proofs.Copying.{IsCellWithin-made, IsCellWithin-plain}
use Rattle.vx_heap.proofs.cell_list.cell_inside.Goals as goal

pub returns-in-Plain-clause-ok : goal.returns-in-Plain-clause-ok
returns-in-Plain-clause-ok g c = IsCellWithin-plain _ c.args.path c.args.cell.now c.in-Plain.slot c.in-Plain.is

pub returns-in_ok-inner-in-Differs-clause-ok : goal.returns-in_ok-inner-in-Differs-clause-ok
returns-in_ok-inner-in-Differs-clause-ok g c =
    let holds : Holds c.args.cell.now c.deref.result.now = rw c.in-Differs.is c.deref.ensures in
    IsCellWithin-made (g.met.S.Space.lawful c.restrict.new.space) c.in_ok-value-in-Differs.ensures.extends c.args.path c.args.cell.now c.in_ok-inner-in-Differs.inner c.deref.result.now c.in_ok-value-in-Differs.value holds c.requires.cell c.requires.known c.in_ok-value-in-Differs.ensures.ok c.in_ok-inner-in-Differs.ensures
