use Rattle.std.proofs.Common.{sym}
use Rattle.std.proofs.lemmas.Option.{slice_get_within}
use Rattle.vx_cond.specs.Cond.{cond_at}
use Rattle.vx_cond.specs.Leaves.{value_within}
use Rattle.vx_heap.proofs.CellWrites.{AreWritten-behind, AreWritten-set, at_cell, cell_valid, over_same, read_at, slot_of}
use Rattle.vx_heap.proofs.cell_list.CellList.write.Goals as goal

pub written_over-requires-clause-cell : goal.written_over-requires-clause-cell
written_over-requires-clause-cell g c = cell_valid _ c.args.presence c.args.self.now c.args.place c.in-Some.before.now c.requires.cells c.in-Some.ensures

pub returns-clause-ok : goal.returns-clause-ok
returns-clause-ok g c =
    let old = g.S.Space.sets c.args.space.now in
    let cells = c.args.self.now in
    let same = at_cell old cells c.args.place c.in-Some.before.now c.args.presence c.in-Some.ensures in
    let over = over_same (g.S.Space.sets c.written_over.new.space) (cond_at old c.args.value.now) (value_within old c.args.presence (slot_of old c.in-Some.before.now)) (value_within old c.args.presence (read_at old cells c.args.place)) c.in_ok-made.made same c.in_ok-made.ensures.ok in
    rw c.set.ensures (AreWritten-set (g.met.S.Space.lawful c.written_over.new.space) c.in_ok-made.ensures.extends c.args.presence cells c.args.place c.args.value.now c.in_ok-made.made c.in_ok-cell.cell c.requires.cells c.requires.presence c.requires.value c.requires.inside over c.in_ok-cell.ensures)

pub set-requires : goal.set-requires
set-requires g c = slice_get_within c.args.self.now c.args.place c.in-Some.before.now (sym c.in-Some.ensures)

pub returns-in_default-clause-ok : goal.returns-in_default-clause-ok
returns-in_default-clause-ok g c = AreWritten-behind (g.S.Space.sets c.args.space.now) c.args.presence c.args.self.now c.args.place c.args.value.now c.requires.cells c.in_default.ensures
