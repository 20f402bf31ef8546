use Rattle.vx_cond.proofs.CondLaws.{IsCond-of}
use Rattle.vx_value.specs.Slot.{slot_cmp}
use Rattle.vx_heap.proofs.CellWrites.{Holds, over_differing, over_plain}
use Rattle.vx_heap.proofs.cell_list.written_over.Goals as goal

pub overwrite-requires-clause-old : goal.overwrite-requires-clause-old
overwrite-requires-clause-old g c = IsCond-of slot_cmp _ _ c.in_ok-before-in-Plain.before c.in_ok-before-in-Plain.ensures.ok

pub returns-in_ok-made-in-Plain-clause-ok : goal.returns-in_ok-made-in-Plain-clause-ok
returns-in_ok-made-in-Plain-clause-ok g c =
    over_plain (g.S.Space.sets c.args.space.now) _ c.args.presence c.args.cell.now c.in-Plain.slot c.in_ok-before-in-Plain.before c.args.value.now c.in_ok-made-in-Plain.made c.in-Plain.is c.in_ok-before-in-Plain.ensures.ok c.in_ok-made-in-Plain.ensures.ok

pub returns-in_ok-made-in-Differs-clause-ok : goal.returns-in_ok-made-in-Differs-clause-ok
returns-in_ok-made-in-Differs-clause-ok g c =
    let holds : Holds c.args.cell.now c.deref.result.now = rw c.in-Differs.is c.deref.ensures in
    over_differing (g.S.Space.sets c.args.space.now) _ c.args.presence c.args.cell.now c.deref.result.now c.args.value.now c.in_ok-made-in-Differs.made holds c.requires.cell c.in_ok-made-in-Differs.ensures.ok
