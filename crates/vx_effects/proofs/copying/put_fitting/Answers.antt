use Rattle.std.proofs.Common.{◌≡◌, arith}
use Rattle.vx_heap.proofs.HeapLaws.{IsHeap-extends}
use Rattle.vx_effects.proofs.Copied.{IsPutting-end, IsPutting-start, IsPutting-step, putting_inside}
use Rattle.vx_effects.proofs.copying.put_fitting.Goals as goal

pub loop-i-init : goal.loop-i-init
loop-i-init g c = rw c.scope-fitting.ensures (IsPutting-start c.args.program.now c.args.component _ c.args.heap.now c.args.array c.args.from c.args.row.now c.requires.known c.requires.none)

pub element-requires-clause-heap : goal.element-requires-clause-heap
element-requires-clause-heap g c = IsHeap-extends c.loop-i.invariant.extends c.args.heap.now c.requires.heap

pub element-requires-clause-known : goal.element-requires-clause-known
element-requires-clause-known g c = c.loop-i.invariant.elements.fits.known

pub element-requires-clause-inside : goal.element-requires-clause-inside
element-requires-clause-inside g c = putting_inside c.args.program.now c.args.component c.args.heap.now c.args.array c.args.from c.loop-i.i c.args.row.now.scope c.loop-i.fitting c.loop-i.row c.requires.heap c.requires.array c.requires.inside c.loop-i.invariant

pub loop-i-preserved : goal.loop-i-preserved
loop-i-preserved g c = rw (c.in_ok-push.ensures.ok, c.scope-fitting-in-loop-i.ensures) (IsPutting-step c.args.program.now c.args.component c.args.heap.now c.args.array c.args.from c.loop-i.i c.args.row.now.scope c.loop-i.fitting c.loop-i.row c.requires.heap c.requires.array c.requires.known c.requires.inside (omega (arith, c.requires.enough, c.loop-i-test.true)) c.loop-i.invariant c.in_ok-part.part c.in_ok-part.ensures.extends c.in_ok-part.ensures.ok)

pub returns-clause-extends : goal.returns-clause-extends
returns-clause-extends g c = c.loop-i.invariant.extends

pub returns-clause-scope : goal.returns-clause-scope
returns-clause-scope g c = c.loop-i.invariant.scope

pub returns-clause-ok : goal.returns-clause-ok
returns-clause-ok g c =
    let all : c.loop-i.i ≡ c.args.count = omega (arith, c.loop-i-test.false, c.loop-i.auto.i-end) in
    IsPutting-end c.args.program.now c.args.component _ _ c.args.heap.now c.args.array c.args.from c.args.count c.loop-i.i c.args.row.now.scope c.loop-i.fitting c.loop-i.row all c.loop-i.invariant
