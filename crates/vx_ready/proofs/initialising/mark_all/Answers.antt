use Rattle.std.proofs.Common.{◌∙◌, ap}
use Rattle.vx_ready.proofs.Changes.{IsChanged-allowed, IsHeapFor-changed}
use Rattle.vx_ready.proofs.Readying.{IsMarking-end, IsMarking-start, IsMarking-step, mark_inside, mark_known}
use Rattle.vx_ready.proofs.initialising.mark_all.Goals as goal
use Rattle.vx_heap.proofs.Written.{allowed_known}
use Rattle.vx_value.specs.declared.slot.InitState.TheVariants.{Done}

pub loop-mark-init : goal.loop-mark-init
loop-mark-init g c = IsMarking-start _ c.args.heap.now Done c.args.marks.now c.requires.heap

pub mark_one-requires-clause-heap : goal.mark_one-requires-clause-heap
mark_one-requires-clause-heap g c = c.loop-mark.invariant.changed.is_heap

pub mark_one-requires-clause-program : goal.mark_one-requires-clause-program
mark_one-requires-clause-program g c = IsHeapFor-changed c.args.program.now _ _ c.args.heap.now c.loop-mark.heap _ c.requires.program c.loop-mark.invariant.changed

pub mark_one-requires-clause-known : goal.mark_one-requires-clause-known
mark_one-requires-clause-known g c = mark_known c.loop-mark.invariant.extends _ c.args.marks.now _ c.mark-item.result c.requires.marks c.loop-mark-test.true c.mark-item.is

pub mark_one-requires-clause-inside : goal.mark_one-requires-clause-inside
mark_one-requires-clause-inside g c = record {
  inside = λ d t.
      ap (λ i. (g.S.Space.sets c.loop-mark.space).test i d) (IsChanged-allowed _ _ c.args.heap.now c.loop-mark.heap _ c.loop-mark.invariant.changed)
      ∙ c.loop-mark.invariant.extends.test c.args.heap.now.allowed d (allowed_known _ c.args.heap.now c.requires.heap)
      ∙ mark_inside c.loop-mark.invariant.extends _ c.args.marks.now _ c.mark-item.result c.requires.marks c.loop-mark-test.true c.mark-item.is d t;
}

pub loop-mark-preserved : goal.loop-mark-preserved
loop-mark-preserved g c = IsMarking-step _ c.args.heap.now c.loop-mark.heap c.mark_one.new.heap Done c.args.marks.now _ c.mark-item.result c.requires.marks c.loop-mark-test.true c.mark-item.is c.loop-mark.invariant c.in_ok-mark_one.ensures.extends c.in_ok-mark_one.ensures.ok

pub returns-clause-extends : goal.returns-clause-extends
returns-clause-extends g c = c.loop-mark.invariant.extends

pub returns-clause-ok : goal.returns-clause-ok
returns-clause-ok g c = IsMarking-end _ _ c.args.heap.now c.loop-mark.heap Done c.args.marks.now _ c.loop-mark-test.false c.loop-mark.invariant
