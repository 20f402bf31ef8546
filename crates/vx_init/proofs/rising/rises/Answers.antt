use Rattle.std.proofs.Common.{◌∙◌, sym}
use Rattle.vx_heap.proofs.HeapLaws.{IsHeap-extends}
use Rattle.vx_space.proofs.Spaces.{Extends-trans}
use Rattle.vx_init.proofs.ClimbLaws.{IsRising-start, IsRising-step, path_runs, rises_closed, rises_end, rises_none}
use Rattle.vx_init.proofs.rising.rises.Goals as goal

pub loop-below-init : goal.loop-below-init
loop-below-init g c = IsRising-start c.args.program.now _ c.args.heap.now c.args.class c.args.path c.in_ok-rises.rises c.in_ok-rises.ensures.scope c.in_ok-rises.ensures.ok

pub returns-in_default-clause-extends : goal.returns-in_default-clause-extends
returns-in_default-clause-extends g c = c.loop-below.invariant.extends

pub returns-in_default-clause-cond : goal.returns-in_default-clause-cond
returns-in_default-clause-cond g c = c.loop-below.invariant.is_cond

pub returns-in_default-clause-scope : goal.returns-in_default-clause-scope
returns-in_default-clause-scope g c = c.loop-below.invariant.scope

pub returns-in_default-clause-at : goal.returns-in_default-clause-at
returns-in_default-clause-at g c = rises_none c.args.program.now _ _ c.args.heap.now c.args.class.0 c.args.path c.loop-below.below c.loop-below.next c.loop-below.rises c.loop-below.invariant c.in_default.is

pub returns-then-not-some_open-clause-extends : goal.returns-then-not-some_open-clause-extends
returns-then-not-some_open-clause-extends g c = c.loop-below.invariant.extends

pub returns-then-not-some_open-clause-cond : goal.returns-then-not-some_open-clause-cond
returns-then-not-some_open-clause-cond g c = c.loop-below.invariant.is_cond

pub returns-then-not-some_open-clause-scope : goal.returns-then-not-some_open-clause-scope
returns-then-not-some_open-clause-scope g c = c.loop-below.invariant.scope

pub returns-then-not-some_open-clause-at : goal.returns-then-not-some_open-clause-at
returns-then-not-some_open-clause-at g c = rises_closed c.args.program.now _ _ c.args.heap.now c.args.class.0 c.args.path c.loop-below.below c.loop-below.next c.loop-below.rises c.loop-below.invariant (sym c.some_open.ensures ∙ c.if-not-some_open.true)

pub risen-requires-clause-heap : goal.risen-requires-clause-heap
risen-requires-clause-heap g c = IsHeap-extends c.loop-below.invariant.extends c.args.heap.now c.requires.heap

pub risen-requires-clause-rises : goal.risen-requires-clause-rises
risen-requires-clause-rises g c = c.loop-below.invariant.is_cond

pub risen-requires-clause-inside : goal.risen-requires-clause-inside
risen-requires-clause-inside g c = path_runs c.loop-below.invariant.extends c.args.heap.now c.args.path c.loop-below.rises c.requires.heap c.requires.known c.requires.inside c.loop-below.invariant.scope

pub returns-in_err-rises-2-clause-extends : goal.returns-in_err-rises-2-clause-extends
returns-in_err-rises-2-clause-extends g c = Extends-trans c.loop-below.invariant.extends c.risen.ensures.extends

pub loop-below-preserved : goal.loop-below-preserved
loop-below-preserved g c = IsRising-step c.args.program.now _ _ _ c.args.heap.now c.args.class.0 c.args.path c.loop-below.below c.loop-below.next c.superclass_of-next.result c.in-Some.class c.loop-below.rises c.in_ok-rises-2.rises c.requires.heap c.loop-below.invariant (rw c.len-below-end.ensures at c.loop-below-test.true) c.in-Some.is c.superclass_of-next.ensures c.in_ok-rises-2.ensures.extends c.in_ok-rises-2.ensures.cond c.in_ok-rises-2.ensures.scope c.in_ok-rises-2.ensures.at

pub returns-clause-extends : goal.returns-clause-extends
returns-clause-extends g c = c.loop-below.invariant.extends

pub returns-clause-cond : goal.returns-clause-cond
returns-clause-cond g c = c.loop-below.invariant.is_cond

pub returns-clause-scope : goal.returns-clause-scope
returns-clause-scope g c = c.loop-below.invariant.scope

pub returns-clause-at : goal.returns-clause-at
returns-clause-at g c = rises_end c.args.program.now _ _ c.args.heap.now c.args.class.0 c.args.path c.loop-below.below c.loop-below.next c.loop-below.rises c.loop-below.invariant (rw c.len-below-end.ensures at c.loop-below-test.false)
