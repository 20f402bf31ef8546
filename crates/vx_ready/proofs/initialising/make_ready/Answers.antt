use Rattle.std.proofs.Common.{◌∙◌, refl}
use Rattle.vx_heap.proofs.HeapLaws.{IsHeap-extends}
use Rattle.vx_space.proofs.Spaces.{Extends-refl, Extends-trans}
use Rattle.vx_ready.proofs.Climbing.{runs_inside}
use Rattle.vx_ready.proofs.Readying.{AreMarks-inside, IsReadied-made, proceeds_inside, rest_inside}
use Rattle.vx_ready.proofs.initialising.make_ready.Goals as goal

pub unquiet-requires-clause-heap : goal.unquiet-requires-clause-heap
unquiet-requires-clause-heap g c = IsHeap-extends (Extends-trans c.in_ok-fails.ensures.extends c.in_ok-rest.ensures.extends) c.args.heap.now c.requires.heap

pub unquiet-requires-clause-inside : goal.unquiet-requires-clause-inside
unquiet-requires-clause-inside g c = runs_inside (Extends-trans c.in_ok-fails.ensures.extends c.in_ok-rest.ensures.extends) (Extends-refl _) c.args.heap.now c.args.path c.in_ok-rest.rest c.requires.heap c.requires.inside c.in_ok-rest.ensures.ok.known (rest_inside _ c.args.path c.in_ok-fails.fails c.in_ok-rest.rest c.requires.known c.in_ok-fails.ensures.extends c.in_ok-rest.ensures.ok)

pub chain_marks-requires-clause-heap : goal.chain_marks-requires-clause-heap
chain_marks-requires-clause-heap g c = IsHeap-extends (Extends-trans c.in_ok-fails.ensures.extends (Extends-trans c.in_ok-rest.ensures.extends (Extends-trans c.in_ok-begins.ensures.extends c.in_ok-proceeds.ensures.extends))) c.args.heap.now c.requires.heap

pub chain_marks-requires-clause-inside : goal.chain_marks-requires-clause-inside
chain_marks-requires-clause-inside g c = runs_inside (Extends-trans c.in_ok-fails.ensures.extends (Extends-trans c.in_ok-rest.ensures.extends (Extends-trans c.in_ok-begins.ensures.extends c.in_ok-proceeds.ensures.extends))) (Extends-refl _) c.args.heap.now c.args.path c.in_ok-proceeds.proceeds c.requires.heap c.requires.inside c.in_ok-proceeds.ensures.ok.known (proceeds_inside c.args.program.now _ _ _ _ _ c.args.heap.now c.args.class.0 c.args.path c.in_ok-fails.fails c.in_ok-rest.rest c.in_ok-begins.begins c.in_ok-proceeds.proceeds c.requires.heap c.requires.known c.in_ok-fails.ensures.extends c.in_ok-fails.ensures.set c.in_ok-rest.ensures.extends c.in_ok-rest.ensures.ok c.in_ok-begins.ensures.extends c.in_ok-begins.ensures.set c.in_ok-proceeds.ensures.ok)

pub mark_all-requires-clause-heap : goal.mark_all-requires-clause-heap
mark_all-requires-clause-heap g c = IsHeap-extends (Extends-trans c.in_ok-fails.ensures.extends (Extends-trans c.in_ok-rest.ensures.extends (Extends-trans c.in_ok-begins.ensures.extends (Extends-trans c.in_ok-proceeds.ensures.extends c.in_ok-marks.ensures.extends)))) c.args.heap.now c.requires.heap

pub mark_all-requires-clause-marks : goal.mark_all-requires-clause-marks
mark_all-requires-clause-marks g c = rw c.deref.ensures.value (AreMarks-inside (g.S.Space.sets c.chain_marks.new.space) _ _ c.in_ok-marks.marks.items (λ d t. (runs_inside (Extends-trans c.in_ok-fails.ensures.extends (Extends-trans c.in_ok-rest.ensures.extends (Extends-trans c.in_ok-begins.ensures.extends c.in_ok-proceeds.ensures.extends))) c.in_ok-marks.ensures.extends c.args.heap.now c.args.path c.in_ok-proceeds.proceeds c.requires.heap c.requires.inside c.in_ok-proceeds.ensures.ok.known (proceeds_inside c.args.program.now _ _ _ _ _ c.args.heap.now c.args.class.0 c.args.path c.in_ok-fails.fails c.in_ok-rest.rest c.in_ok-begins.begins c.in_ok-proceeds.proceeds c.requires.heap c.requires.known c.in_ok-fails.ensures.extends c.in_ok-fails.ensures.set c.in_ok-rest.ensures.extends c.in_ok-rest.ensures.ok c.in_ok-begins.ensures.extends c.in_ok-begins.ensures.set c.in_ok-proceeds.ensures.ok)).inside d (c.in_ok-marks.ensures.extends.test c.in_ok-proceeds.proceeds d c.in_ok-proceeds.ensures.ok.known ∙ t)) c.in_ok-marks.ensures.marks)

pub returns-clause-extends : goal.returns-clause-extends
returns-clause-extends g c = Extends-trans c.in_ok-fails.ensures.extends (Extends-trans c.in_ok-rest.ensures.extends (Extends-trans c.in_ok-begins.ensures.extends (Extends-trans c.in_ok-proceeds.ensures.extends (Extends-trans c.in_ok-marks.ensures.extends c.in_ok-mark_all.ensures.extends))))

pub returns-clause-ok : goal.returns-clause-ok
returns-clause-ok g c = IsReadied-made c.args.program.now _ _ _ _ _ c.args.heap.now c.args.class.0 c.args.path c.in_ok-fails.fails c.in_ok-rest.rest c.in_ok-begins.begins c.in_ok-proceeds.proceeds c.requires.heap c.requires.known c.in_ok-fails.ensures.extends c.in_ok-fails.ensures.set c.in_ok-rest.ensures.extends c.in_ok-rest.ensures.ok c.in_ok-begins.ensures.extends c.in_ok-begins.ensures.set c.in_ok-proceeds.ensures.ok c.in_ok-proceeds.ensures.extends c.mark_all.new.heap c.in_ok-marks.marks.items c.in_ok-marks.ensures.extends c.in_ok-marks.ensures.at c.in_ok-mark_all.ensures.extends (rw c.deref.ensures.value at c.in_ok-mark_all.ensures.ok) _ refl
