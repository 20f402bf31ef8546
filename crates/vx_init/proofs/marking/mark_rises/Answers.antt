use Rattle.vx_cond.proofs.LeafLoops.{next_known}
use Rattle.vx_ready.proofs.Changes.{IsHeapFor-changed}
use Rattle.vx_space.proofs.Spaces.{Extends-trans}
use Rattle.vx_init.proofs.MarkLaws.{AreMarked-end, AreMarked-start, AreMarked-step, rise_runs}
use Rattle.vx_init.specs.Rises.{rise_cmp}
use Rattle.vx_init.proofs.marking.mark_rises.Goals as goal

pub loop-leaf-init : goal.loop-leaf-init
loop-leaf-init g c = AreMarked-start c.args.program.now c.args.class.0 c.args.frames _ c.args.heap.now c.args.rises.now c.requires.heap

pub mark_rise-requires-clause-heap : goal.mark_rise-requires-clause-heap
mark_rise-requires-clause-heap g c = c.loop-leaf.invariant.changed.is_heap

pub mark_rise-requires-clause-program : goal.mark_rise-requires-clause-program
mark_rise-requires-clause-program g c = IsHeapFor-changed c.args.program.now _ _ c.args.heap.now c.loop-leaf.heap _ c.requires.program c.loop-leaf.invariant.changed

pub mark_rise-requires-clause-known : goal.mark_rise-requires-clause-known
mark_rise-requires-clause-known g c = next_known rise_cmp c.args.rises.now _ c.leaf-item.result c.requires.leaves c.loop-leaf-test.true c.leaf-item.is c.loop-leaf.invariant.extends

pub mark_rise-requires-clause-inside : goal.mark_rise-requires-clause-inside
mark_rise-requires-clause-inside g c = rise_runs c.args.program.now c.args.class.0 c.args.frames _ _ c.args.heap.now c.loop-leaf.heap c.args.rises.now c.loop-leaf.leaf-index c.leaf-item.result c.requires.heap c.requires.leaves c.requires.inside c.loop-leaf-test.true c.leaf-item.is c.loop-leaf.invariant

pub returns-in_err-mark_rise-clause-extends : goal.returns-in_err-mark_rise-clause-extends
returns-in_err-mark_rise-clause-extends g c = Extends-trans c.loop-leaf.invariant.extends c.mark_rise.ensures.extends

pub loop-leaf-preserved : goal.loop-leaf-preserved
loop-leaf-preserved g c = AreMarked-step c.args.program.now c.args.class.0 c.args.frames _ _ _ c.args.heap.now c.loop-leaf.heap c.mark_rise.new.heap c.args.rises.now c.loop-leaf.leaf-index c.leaf-item.result c.requires.leaves c.loop-leaf-test.true c.leaf-item.is c.loop-leaf.invariant c.in_ok-mark_rise.ensures.extends c.in_ok-mark_rise.ensures.ok

pub returns-clause-extends : goal.returns-clause-extends
returns-clause-extends g c = c.loop-leaf.invariant.extends

pub returns-clause-ok : goal.returns-clause-ok
returns-clause-ok g c = AreMarked-end c.args.program.now c.args.class.0 c.args.frames _ _ c.args.heap.now c.loop-leaf.heap c.args.rises.now c.loop-leaf.leaf-index c.loop-leaf-test.false c.loop-leaf.invariant
