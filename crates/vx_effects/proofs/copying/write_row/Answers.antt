use Rattle.vx_effects.proofs.Runs.{IsWriting-end, IsWriting-start, IsWriting-step, row-cond, row-held, row-inside, row-there}
use Rattle.vx_effects.proofs.copying.write_row.Goals as goal

pub loop-i-init : goal.loop-i-init
loop-i-init g c = IsWriting-start _ c.args.heap.now c.args.array c.args.to c.args.row.now c.requires.heap

pub write_cell-requires-clause-heap : goal.write_cell-requires-clause-heap
write_cell-requires-clause-heap g c = c.loop-i.invariant.changed.is_heap

pub write_cell-requires-clause-reference : goal.write_cell-requires-clause-reference
write_cell-requires-clause-reference g c = row-there c.args.heap.now c.loop-i.heap c.args.array c.args.to c.args.row.now c.loop-i.i c.get.result.now c.requires.heap c.requires.known c.requires.somewhere c.requires.object c.requires.parts c.get.ensures c.loop-i.invariant

pub write_cell-requires-clause-value : goal.write_cell-requires-clause-value
write_cell-requires-clause-value g c = row-cond c.args.heap.now c.loop-i.heap c.args.array c.args.to c.args.row.now c.loop-i.i c.get.result.now c.requires.heap c.requires.known c.requires.somewhere c.requires.object c.requires.parts c.get.ensures c.loop-i.invariant

pub write_cell-requires-clause-inside : goal.write_cell-requires-clause-inside
write_cell-requires-clause-inside g c = row-inside c.args.heap.now c.loop-i.heap c.args.array c.args.to c.args.row.now c.loop-i.i c.get.result.now c.requires.heap c.requires.known c.requires.somewhere c.requires.object c.requires.parts c.get.ensures c.loop-i.invariant

pub write_cell-requires-clause-held : goal.write_cell-requires-clause-held
write_cell-requires-clause-held g c = row-held c.args.heap.now c.loop-i.heap c.args.array c.args.to c.args.row.now c.loop-i.i c.get.result.now c.requires.heap c.requires.known c.requires.somewhere c.requires.object c.requires.parts c.get.ensures c.loop-i.invariant

pub loop-i-preserved : goal.loop-i-preserved
loop-i-preserved g c = IsWriting-step c.args.heap.now c.loop-i.heap c.args.array c.args.to c.args.row.now c.loop-i.i c.get.result.now c.requires.heap c.requires.known c.requires.somewhere c.requires.object c.requires.parts c.get.ensures c.loop-i.invariant c.write_cell.new.self c.in_ok-write_cell.ensures.extends c.in_ok-write_cell.ensures.ok

pub returns-clause-extends : goal.returns-clause-extends
returns-clause-extends g c = c.loop-i.invariant.extends

pub returns-clause-ok : goal.returns-clause-ok
returns-clause-ok g c = IsWriting-end _ _ c.args.heap.now c.loop-i.heap c.args.array c.args.to c.args.row.now c.loop-i.i (rw c.len-i-end.ensures at c.loop-i-test.false) c.loop-i.invariant
