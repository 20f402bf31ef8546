use Rattle.vx_heap.proofs.HeapLaws.{IsHeap-extends}
use Rattle.vx_space.proofs.Spaces.{Extends-refl, Extends-trans}
use Rattle.vx_ready.proofs.Climbing.{IsCollecting-start, IsCollecting-step, marks_end, marks_never, marks_none, runs_inside}
use Rattle.vx_ready.proofs.initialising.chain_marks.Goals as goal

pub loop-left-init : goal.loop-left-init
loop-left-init g c = rw (c.new-marks.ensures.items, c.len-left.ensures) (IsCollecting-start c.args.program.now _ c.args.heap.now c.args.class c.args.path c.requires.known)

pub returns-in_default-clause-extends : goal.returns-in_default-clause-extends
returns-in_default-clause-extends g c = c.loop-left.invariant.extends

pub returns-in_default-clause-marks : goal.returns-in_default-clause-marks
returns-in_default-clause-marks g c = c.loop-left.invariant.are_marks

pub returns-in_default-clause-at : goal.returns-in_default-clause-at
returns-in_default-clause-at g c = marks_none c.args.program.now c.args.heap.now _ c.args.path c.loop-left.left c.loop-left.next c.loop-left.climbing c.loop-left.marks.items c.loop-left.invariant c.in_default.is

pub is_never-requires : goal.is_never-requires
is_never-requires g c = c.loop-left.invariant.climbing_known

pub returns-then-is_never-clause-extends : goal.returns-then-is_never-clause-extends
returns-then-is_never-clause-extends g c = c.loop-left.invariant.extends

pub returns-then-is_never-clause-marks : goal.returns-then-is_never-clause-marks
returns-then-is_never-clause-marks g c = c.loop-left.invariant.are_marks

pub returns-then-is_never-clause-at : goal.returns-then-is_never-clause-at
returns-then-is_never-clause-at g c = marks_never c.args.program.now c.args.heap.now _ c.args.path c.loop-left.left c.loop-left.next c.loop-left.climbing c.loop-left.marks.items c.loop-left.invariant (g.met.S.Space.lawful c.loop-left.space) (c.is_never.ensures.0 c.if-is_never.true)

pub not_begun-requires-clause-heap : goal.not_begun-requires-clause-heap
not_begun-requires-clause-heap g c = IsHeap-extends c.loop-left.invariant.extends c.args.heap.now c.requires.heap

pub not_begun-requires-clause-known : goal.not_begun-requires-clause-known
not_begun-requires-clause-known g c = c.loop-left.invariant.climbing_known

pub not_begun-requires-clause-inside : goal.not_begun-requires-clause-inside
not_begun-requires-clause-inside g c = runs_inside c.loop-left.invariant.extends (Extends-refl _) c.args.heap.now c.args.path c.loop-left.climbing c.requires.heap c.requires.inside c.loop-left.invariant.climbing_known c.loop-left.invariant.inside

pub returns-in_err-climbing-clause-extends : goal.returns-in_err-climbing-clause-extends
returns-in_err-climbing-clause-extends g c = Extends-trans c.loop-left.invariant.extends c.not_begun.ensures.extends

pub returns-in_err-push-clause-extends : goal.returns-in_err-push-clause-extends
returns-in_err-push-clause-extends g c = Extends-trans c.loop-left.invariant.extends c.in_ok-climbing.ensures.extends

pub loop-left-preserved : goal.loop-left-preserved
loop-left-preserved g c = rw c.in_ok-push.ensures.items (IsCollecting-step c.args.program.now c.args.heap.now c.args.path c.loop-left.left c.loop-left.next c.args.class c.in-Some.class c.superclass_of-next.result c.loop-left.climbing c.in_ok-climbing.climbing c.loop-left.marks.items c.requires.heap c.loop-left.invariant c.loop-left-test.true c.in-Some.is c.superclass_of-next.ensures c.in_ok-climbing.ensures.extends c.in_ok-climbing.ensures.set)

pub returns-clause-extends : goal.returns-clause-extends
returns-clause-extends g c = c.loop-left.invariant.extends

pub returns-clause-marks : goal.returns-clause-marks
returns-clause-marks g c = c.loop-left.invariant.are_marks

pub returns-clause-at : goal.returns-clause-at
returns-clause-at g c = marks_end c.args.program.now c.args.heap.now _ c.args.path c.loop-left.left c.loop-left.next c.loop-left.climbing c.loop-left.marks.items c.loop-left.invariant c.loop-left-test.false
