use Rattle.std.proofs.Common.{◌∙◌, ap, refl, sym, true}
use Rattle.vx_ready.proofs.Changes.{IsChanged-allowed, IsHeapFor-changed}
use Rattle.vx_ready.proofs.Readying.{IsMarking-start, IsMarking-step, mark_among, mark_of, marked_classes, marks_in, marks_in-are}
use Rattle.vx_ready.proofs.initialising.mark_classes.Goals as goal
use Rattle.vx_heap.proofs.Written.{allowed_known}

pub loop-class-init : goal.loop-class-init
loop-class-init g c = IsMarking-start _ c.args.heap.now c.args.state (marks_in c.args.condition c.args.classes.now) c.requires.heap

pub mark_one-requires-clause-heap : goal.mark_one-requires-clause-heap
mark_one-requires-clause-heap g c = c.loop-class.invariant.changed.is_heap

pub mark_one-requires-clause-program : goal.mark_one-requires-clause-program
mark_one-requires-clause-program g c = IsHeapFor-changed c.args.program.now _ _ c.args.heap.now c.loop-class.heap _ c.requires.program c.loop-class.invariant.changed

pub mark_one-requires-clause-known : goal.mark_one-requires-clause-known
mark_one-requires-clause-known g c = c.loop-class.invariant.extends.known c.args.condition c.requires.known

pub mark_one-requires-clause-inside : goal.mark_one-requires-clause-inside
mark_one-requires-clause-inside g c = record {
  inside = λ d t.
      ap (λ i. (g.S.Space.sets c.loop-class.space).test i d) (IsChanged-allowed _ _ c.args.heap.now c.loop-class.heap _ c.loop-class.invariant.changed)
      ∙ c.loop-class.invariant.extends.test c.args.heap.now.allowed d (allowed_known _ c.args.heap.now c.requires.heap)
      ∙ c.requires.inside.inside d (sym (c.loop-class.invariant.extends.test c.args.condition d c.requires.known) ∙ t);
}

pub loop-class-preserved : goal.loop-class-preserved
loop-class-preserved g c = IsMarking-step (λ _. true) c.args.heap.now c.loop-class.heap c.mark_one.new.heap c.args.state (marks_in c.args.condition c.args.classes.now) _ _ (marks_in-are _ (g.S.Space.sets c.args.space.now) (λ _. true) c.args.condition c.args.classes.now c.requires.known (λ d t. refl)) (mark_among _ c.args.condition c.args.classes.now c.loop-class.class-index c.loop-class-test.true) (mark_of c.args.condition c.args.classes.now c.loop-class.class-index _ _ c.loop-class-test.true refl) c.loop-class.invariant c.in_ok-mark_one.ensures.extends c.in_ok-mark_one.ensures.ok

pub returns-clause-extends : goal.returns-clause-extends
returns-clause-extends g c = c.loop-class.invariant.extends

pub returns-clause-ok : goal.returns-clause-ok
returns-clause-ok g c = marked_classes _ _ c.args.heap.now c.loop-class.heap c.args.condition c.args.classes.now c.args.state _ c.loop-class-test.false c.loop-class.invariant
