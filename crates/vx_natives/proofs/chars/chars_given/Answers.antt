use Rattle.std.proofs.Common.{◌∙◌, arith, sym}
use Rattle.vx_families.proofs.MoreTexts.{IsHeap-texts}
use Rattle.vx_heap.proofs.HeapLaws.{IsHeap-extends}
use Rattle.vx_natives.proofs.CharLaws.{IsReading-start, IsReading-step, inside_later, reading_done, same_count, same_object}
use Rattle.vx_natives.proofs.chars.chars_given.Goals as goal

pub loop-cell-init : goal.loop-cell-init
loop-cell-init g c = IsReading-start _ c.args.heap.now c.put_text.new.self c.args.reference c.args.condition c.in_ok-texts.texts c.in_ok-empty.empty c.in_ok-empty.ensures.ok c.in_ok-texts.ensures.ok c.in_ok-texts.ensures.scope

pub with_element-requires-clause-heap : goal.with_element-requires-clause-heap
with_element-requires-clause-heap g c = IsHeap-texts _ c.args.heap.now c.loop-cell.heap c.loop-cell.invariant.more (IsHeap-extends c.loop-cell.invariant.extends c.args.heap.now c.requires.heap)

pub with_element-requires-clause-reference : goal.with_element-requires-clause-reference
with_element-requires-clause-reference g c = rw (same_count c.args.heap.now c.loop-cell.heap c.loop-cell.invariant.more) c.requires.reference

pub with_element-requires-clause-cell : goal.with_element-requires-clause-cell
with_element-requires-clause-cell g c = rw (same_object c.args.heap.now c.loop-cell.heap c.args.reference c.loop-cell.invariant.more, ← c.cell_count-count.ensures) (omega (arith, c.loop-cell-test.true))

pub with_element-requires-clause-known : goal.with_element-requires-clause-known
with_element-requires-clause-known g c = c.loop-cell.invariant.extends.known _ c.requires.known

pub with_element-requires-clause-inside : goal.with_element-requires-clause-inside
with_element-requires-clause-inside g c = rw (same_object c.args.heap.now c.loop-cell.heap c.args.reference c.loop-cell.invariant.more) (inside_later c.loop-cell.invariant.extends c.args.heap.now c.args.reference c.args.condition c.requires.heap c.requires.reference c.requires.known c.requires.inside)

pub with_element-requires-clause-texts : goal.with_element-requires-clause-texts
with_element-requires-clause-texts g c = c.loop-cell.invariant.is_cond

pub with_element-requires-clause-scope : goal.with_element-requires-clause-scope
with_element-requires-clause-scope g c = c.loop-cell.invariant.scope

pub with_element-requires-clause-given : goal.with_element-requires-clause-given
with_element-requires-clause-given g c = λ d t. c.loop-cell.invariant.at d (sym (c.loop-cell.invariant.extends.test c.args.condition d c.requires.known) ∙ t)

pub loop-cell-preserved : goal.loop-cell-preserved
loop-cell-preserved g c = IsReading-step c.args.heap.now c.loop-cell.heap c.with_element.new.heap c.args.reference c.args.condition c.loop-cell.cell c.loop-cell.texts c.in_ok-texts-2.texts c.requires.known c.loop-cell.invariant c.in_ok-texts-2.ensures.extends c.in_ok-texts-2.ensures.more c.in_ok-texts-2.ensures.cond c.in_ok-texts-2.ensures.scope c.in_ok-texts-2.ensures.at

pub returns-clause-extends : goal.returns-clause-extends
returns-clause-extends g c = c.loop-cell.invariant.extends

pub returns-clause-more : goal.returns-clause-more
returns-clause-more g c = c.loop-cell.invariant.more

pub returns-clause-cond : goal.returns-clause-cond
returns-clause-cond g c = c.loop-cell.invariant.is_cond

pub returns-clause-scope : goal.returns-clause-scope
returns-clause-scope g c = c.loop-cell.invariant.scope

pub returns-clause-at : goal.returns-clause-at
returns-clause-at g c = reading_done _ _ c.args.heap.now c.loop-cell.heap c.args.reference c.args.condition c.loop-cell.cell c.loop-cell.texts c.requires.heap c.requires.reference c.requires.known c.requires.inside (rw (← c.cell_count-count.ensures) (omega (arith, c.loop-cell-test.false))) c.loop-cell.invariant
