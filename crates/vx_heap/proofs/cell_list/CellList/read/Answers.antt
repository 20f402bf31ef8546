use Rattle.std.proofs.lemmas.Result.{IfOk-weaker}
use Rattle.vx_cond.specs.Leaves.{value_within}
use Rattle.vx_value.specs.Slot.{slot_cmp}
use Rattle.vx_heap.proofs.CellWrites.{IsCondOf-same, at_cell, at_no_cell, cell_inside, cell_valid, read_at, slot_of}
use Rattle.vx_heap.proofs.cell_list.CellList.read.Goals as goal

pub value_inside-requires-clause-cell : goal.value_inside-requires-clause-cell
value_inside-requires-clause-cell g c = cell_inside _ c.args.presence c.args.path c.in-Some.cell.now c.requires.inside (cell_valid _ c.args.presence c.args.self.now c.args.place c.in-Some.cell.now c.requires.cells c.in-Some.ensures)

pub returns-in-Some-clause-ok : goal.returns-in-Some-clause-ok
returns-in-Some-clause-ok g c =
    let old = g.S.Space.sets c.args.space.now in
    IfOk-weaker c.value_inside.result _ _
    (λ made h. IsCondOf-same slot_cmp (g.S.Space.sets c.value_inside.new.space) (value_within old c.args.path (slot_of old c.in-Some.cell.now)) (value_within old c.args.path (read_at old c.args.self.now c.args.place)) made (at_cell old c.args.self.now c.args.place c.in-Some.cell.now c.args.path c.in-Some.ensures) h)
    c.value_inside.ensures.ok

pub returns-in_ok-nothing-in-None-clause-ok : goal.returns-in_ok-nothing-in-None-clause-ok
returns-in_ok-nothing-in-None-clause-ok g c =
    let old = g.S.Space.sets c.args.space.now in
    IsCondOf-same slot_cmp old _ (value_within old c.args.path (read_at old c.args.self.now c.args.place)) c.in_ok-nothing-in-None.nothing (at_no_cell old c.args.self.now c.args.place c.args.path c.in-None.ensures) c.in_ok-nothing-in-None.ensures.ok
