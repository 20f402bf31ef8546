use Rattle.vx_cond.proofs.CondLaws.{IsCond-of}
use Rattle.vx_value.specs.Slot.{slot_cmp}
use Rattle.vx_cells.proofs.WrittenInside.{object-inside, object-within, slot-held, slot-written}
use Rattle.vx_cells.proofs.writing.write_inside.Goals as goal

pub write_cell-requires-clause-reference : goal.write_cell-requires-clause-reference
write_cell-requires-clause-reference g c = object-within (g.S.Space.sets c.args.space.now) c.args.heap.now c.args.reference c.args.slot c.args.path c.in_ok-value.value c.requires.somewhere c.requires.object

pub write_cell-requires-clause-value : goal.write_cell-requires-clause-value
write_cell-requires-clause-value g c = IsCond-of slot_cmp _ _ c.in_ok-value.value c.in_ok-value.ensures.ok

pub write_cell-requires-clause-inside : goal.write_cell-requires-clause-inside
write_cell-requires-clause-inside g c = object-inside (g.S.Space.sets c.args.space.now) c.args.heap.now c.args.reference c.args.slot c.args.path c.in_ok-value.value c.in_ok-value.ensures.scope c.requires.object

pub write_cell-requires-clause-held : goal.write_cell-requires-clause-held
write_cell-requires-clause-held g c = slot-held (g.S.Space.sets c.args.space.now) c.args.heap.now c.args.reference c.args.slot c.args.path c.in_ok-value.value c.in_ok-value.ensures.scope c.in_ok-value.ensures.ok c.requires.held

pub returns-clause-ok : goal.returns-clause-ok
returns-clause-ok g c = slot-written (g.S.Space.sets c.args.space.now) c.args.heap.now c.args.reference c.args.slot c.args.path c.in_ok-value.value c.write_cell.new.self c.args.cell c.in_ok-value.ensures.scope c.in_ok-value.ensures.ok c.in_ok-write_cell.ensures.ok
