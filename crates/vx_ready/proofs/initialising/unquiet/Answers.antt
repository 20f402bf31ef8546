use Rattle.std.proofs.Common.{◌∙◌, sym}
use Rattle.vx_heap.proofs.HeapLaws.{IsHeap-extends}
use Rattle.vx_space.proofs.Spaces.{Extends-refl, Extends-trans}
use Rattle.vx_ready.proofs.Climbing.{IsClimbing-start, IsClimbing-step, runs_inside, unquiet_end, unquiet_loud, unquiet_never, unquiet_none}
use Rattle.vx_ready.proofs.initialising.unquiet.Goals as goal

pub loop-left-init : goal.loop-left-init
loop-left-init g c = rw (c.never-unquiet.ensures, c.len-left.ensures) (IsClimbing-start c.args.program.now (g.met.S.Space.lawful c.args.space.now) c.args.heap.now c.args.class c.args.path c.requires.known)

pub returns-in_default-clause-extends : goal.returns-in_default-clause-extends
returns-in_default-clause-extends g c = c.loop-left.invariant.extends

pub returns-in_default-clause-set : goal.returns-in_default-clause-set
returns-in_default-clause-set g c = unquiet_none c.args.program.now c.args.heap.now _ c.args.path c.loop-left.left c.loop-left.next c.loop-left.climbing c.loop-left.unquiet c.loop-left.invariant c.in_default.is

pub is_never-requires : goal.is_never-requires
is_never-requires g c = c.loop-left.invariant.climbing_known

pub returns-then-is_never-clause-extends : goal.returns-then-is_never-clause-extends
returns-then-is_never-clause-extends g c = c.loop-left.invariant.extends

pub returns-then-is_never-clause-set : goal.returns-then-is_never-clause-set
returns-then-is_never-clause-set g c = unquiet_never c.args.program.now (g.met.S.Space.lawful c.loop-left.space) c.args.heap.now _ c.args.path c.loop-left.left c.loop-left.next c.loop-left.climbing c.loop-left.unquiet c.loop-left.invariant (c.is_never.ensures.0 c.if-is_never.true)

pub failed-requires-clause-heap : goal.failed-requires-clause-heap
failed-requires-clause-heap g c = IsHeap-extends c.loop-left.invariant.extends c.args.heap.now c.requires.heap

pub failed-requires-clause-known : goal.failed-requires-clause-known
failed-requires-clause-known g c = c.loop-left.invariant.climbing_known

pub failed-requires-clause-inside : goal.failed-requires-clause-inside
failed-requires-clause-inside g c = runs_inside c.loop-left.invariant.extends (Extends-refl _) c.args.heap.now c.args.path c.loop-left.climbing c.requires.heap c.requires.inside c.loop-left.invariant.climbing_known c.loop-left.invariant.inside

pub returns-in_err-below_failed-clause-extends : goal.returns-in_err-below_failed-clause-extends
returns-in_err-below_failed-clause-extends g c = Extends-trans c.loop-left.invariant.extends c.failed.ensures.extends

pub or-requires-clause-first : goal.or-requires-clause-first
or-requires-clause-first g c = c.in_ok-below_failed.ensures.extends.known _ c.loop-left.invariant.unquiet_known

pub returns-in_err-unquiet-clause-extends : goal.returns-in_err-unquiet-clause-extends
returns-in_err-unquiet-clause-extends g c = Extends-trans (Extends-trans c.loop-left.invariant.extends c.in_ok-below_failed.ensures.extends) c.or.ensures.extends

pub not_begun-requires-clause-heap : goal.not_begun-requires-clause-heap
not_begun-requires-clause-heap g c = IsHeap-extends (Extends-trans c.loop-left.invariant.extends (Extends-trans c.in_ok-below_failed.ensures.extends c.in_ok-unquiet.ensures.extends)) c.args.heap.now c.requires.heap

pub not_begun-requires-clause-known : goal.not_begun-requires-clause-known
not_begun-requires-clause-known g c = (Extends-trans c.in_ok-below_failed.ensures.extends c.in_ok-unquiet.ensures.extends).known _ c.loop-left.invariant.climbing_known

pub not_begun-requires-clause-inside : goal.not_begun-requires-clause-inside
not_begun-requires-clause-inside g c = runs_inside c.loop-left.invariant.extends (Extends-trans c.in_ok-below_failed.ensures.extends c.in_ok-unquiet.ensures.extends) c.args.heap.now c.args.path c.loop-left.climbing c.requires.heap c.requires.inside c.loop-left.invariant.climbing_known c.loop-left.invariant.inside

pub returns-then-not-is_quiet-clause-set : goal.returns-then-not-is_quiet-clause-set
returns-then-not-is_quiet-clause-set g c = unquiet_loud c.args.program.now _ _ _ _ _ c.args.heap.now c.args.path c.loop-left.left c.loop-left.next c.args.class c.in-Some.class c.loop-left.climbing c.loop-left.unquiet c.in_ok-below_failed.below_failed _ _ c.requires.heap c.loop-left.invariant c.loop-left-test.true c.in-Some.is c.in_ok-below_failed.ensures.extends c.in_ok-below_failed.ensures.set c.in_ok-unquiet.ensures.extends c.in_ok-unquiet.ensures.ok c.in_ok-climbing.ensures.extends c.in_ok-climbing.ensures.set _ (sym c.is_quiet.ensures ∙ c.if-not-is_quiet.true) c.in_ok-unquiet-2.ensures.ok

pub loop-left-preserved : goal.loop-left-preserved
loop-left-preserved g c = IsClimbing-step c.args.program.now _ _ _ _ _ c.args.heap.now c.args.path c.loop-left.left c.loop-left.next c.args.class c.in-Some.class c.loop-left.climbing c.loop-left.unquiet c.in_ok-below_failed.below_failed _ _ c.requires.heap c.loop-left.invariant c.loop-left-test.true c.in-Some.is c.in_ok-below_failed.ensures.extends c.in_ok-below_failed.ensures.set c.in_ok-unquiet.ensures.extends c.in_ok-unquiet.ensures.ok c.in_ok-climbing.ensures.extends c.in_ok-climbing.ensures.set c.superclass_of-next.result c.superclass_of-next.ensures (sym c.is_quiet.ensures ∙ c.if-not-is_quiet.false)

pub returns-clause-extends : goal.returns-clause-extends
returns-clause-extends g c = c.loop-left.invariant.extends

pub returns-clause-set : goal.returns-clause-set
returns-clause-set g c = unquiet_end c.args.program.now c.args.heap.now _ c.args.path c.loop-left.left c.loop-left.next c.loop-left.climbing c.loop-left.unquiet c.loop-left.invariant c.loop-left-test.false
