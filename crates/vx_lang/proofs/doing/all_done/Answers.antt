use Rattle.std.proofs.Common.{subst}
use Rattle.vx_cond.proofs.CondLaws.{IsCond-extends}
use Rattle.vx_group_states.specs.Answering.{answer_at}
use Rattle.vx_group_states.specs.Answers.{answer_cmp}
use Rattle.vx_natives.proofs.Keeping.{IsSaid-same}
use Rattle.vx_natives.proofs.Leaves.{IsDoing-apart, IsDoing-end, IsDoing-start, IsDoing-step, leaf_ready}
use Rattle.vx_natives.specs.CallOrder.{call_cmp}
use Rattle.vx_natives.specs.Doing.{said_over}
use Rattle.vx_natives.specs.Readings.{IsCallOr, said}
use Rattle.vx_natives.specs.declared.call.Call.{Call}
use Rattle.vx_natives.specs.declared.call.Call.TheVariants.{Illegal}
use Rattle.vx_lang.proofs.Loops.{call_later, runs_later, said_law, said_over_later}
use Rattle.vx_lang.proofs.doing.all_done.Goals as goal

pub loop-leaf-init : goal.loop-leaf-init
loop-leaf-init g c = IsDoing-start _ _ (g.met.S.Space.lawful c.args.space.now) c.args.heap.now c.args.calls.now c.in_ok-answers.answers c.requires.heap (rw c.never.ensures at c.in_ok-answers.ensures.ok)

pub done-requires-clause-heap : goal.done-requires-clause-heap
done-requires-clause-heap g c = c.loop-leaf.invariant.kept.is_heap

pub done-requires-clause-for_program : goal.done-requires-clause-for_program
done-requires-clause-for_program g c = c.loop-leaf.invariant.kept.keeps c.args.program.now c.requires.for_program

pub done-requires-clause-known : goal.done-requires-clause-known
done-requires-clause-known g c = (leaf_ready call_cmp _ (said_law c.args.program.now (g.S.Space.sets c.args.space.now) c.args.heap.now c.args.behaviour) c.args.heap.now c.loop-leaf.heap c.args.calls.now c.loop-leaf.leaf-index c.leaf-item.result c.loop-leaf.answers c.requires.calls (rw c.leaves-leaves.ensures at c.loop-leaf-test.true) (rw c.leaves-leaves.ensures at c.leaf-item.is) c.loop-leaf.invariant (g.met.S.Space.lawful c.args.space.now)).known

pub done-requires-clause-somewhere : goal.done-requires-clause-somewhere
done-requires-clause-somewhere g c = (leaf_ready call_cmp _ (said_law c.args.program.now (g.S.Space.sets c.args.space.now) c.args.heap.now c.args.behaviour) c.args.heap.now c.loop-leaf.heap c.args.calls.now c.loop-leaf.leaf-index c.leaf-item.result c.loop-leaf.answers c.requires.calls (rw c.leaves-leaves.ensures at c.loop-leaf-test.true) (rw c.leaves-leaves.ensures at c.leaf-item.is) c.loop-leaf.invariant (g.met.S.Space.lawful c.args.space.now)).some

pub done-requires-clause-runs : goal.done-requires-clause-runs
done-requires-clause-runs g c =
    let leaf = leaf_ready call_cmp _ (said_law c.args.program.now (g.S.Space.sets c.args.space.now) c.args.heap.now c.args.behaviour) c.args.heap.now c.loop-leaf.heap c.args.calls.now c.loop-leaf.leaf-index c.leaf-item.result c.loop-leaf.answers c.requires.calls (rw c.leaves-leaves.ensures at c.loop-leaf-test.true) (rw c.leaves-leaves.ensures at c.leaf-item.is) c.loop-leaf.invariant (g.met.S.Space.lawful c.args.space.now) in
    let so = c.loop-leaf.invariant in
    record { inside = λ d t. runs_later so.extends c.args.heap.now c.loop-leaf.heap c.requires.heap so.kept.grows d (c.requires.runs.inside d (leaf.inside d t)) }

pub done-requires-clause-call : goal.done-requires-clause-call
done-requires-clause-call g c = λ d t.
    let leaf = leaf_ready call_cmp _ (said_law c.args.program.now (g.S.Space.sets c.args.space.now) c.args.heap.now c.args.behaviour) c.args.heap.now c.loop-leaf.heap c.args.calls.now c.loop-leaf.leaf-index c.leaf-item.result c.loop-leaf.answers c.requires.calls (rw c.leaves-leaves.ensures at c.loop-leaf-test.true) (rw c.leaves-leaves.ensures at c.leaf-item.is) c.loop-leaf.invariant (g.met.S.Space.lawful c.args.space.now) in
    let so = c.loop-leaf.invariant in
    let P : Call → Type 0 = IsCallOr (g.S.Space.sets c.args.space.now) c.args.heap.now d c.args.behaviour in
    call_later so.extends c.args.heap.now c.loop-leaf.heap c.requires.heap so.kept.grows d c.args.behaviour c.leaf-item.result.value (leaf.same d t) (subst P (leaf.is Illegal d t) (c.requires.each d (leaf.inside d t)))

pub join-requires-clause-first : goal.join-requires-clause-first
join-requires-clause-first g c = IsCond-extends answer_cmp c.in_ok-part.ensures.extends c.loop-leaf.answers c.loop-leaf.invariant.is_cond

pub join-requires-clause-second : goal.join-requires-clause-second
join-requires-clause-second g c = c.in_ok-part.ensures.done.is_cond

pub join-requires-clause-disjoint : goal.join-requires-clause-disjoint
join-requires-clause-disjoint g c = rw c.in_ok-part.ensures.done.scope (IsDoing-apart call_cmp _ (said_law c.args.program.now (g.S.Space.sets c.args.space.now) c.args.heap.now c.args.behaviour) c.args.heap.now c.loop-leaf.heap c.args.calls.now c.loop-leaf.leaf-index c.leaf-item.result c.loop-leaf.answers c.requires.calls (rw c.leaves-leaves.ensures at c.loop-leaf-test.true) (rw c.leaves-leaves.ensures at c.leaf-item.is) c.loop-leaf.invariant c.in_ok-part.ensures.extends)

pub loop-leaf-preserved : goal.loop-leaf-preserved
loop-leaf-preserved g c =
    let s0 = g.S.Space.sets c.args.space.now in
    let s1 = g.S.Space.sets c.loop-leaf.space in
    let s2 = g.S.Space.sets c.done.new.space in
    let p = c.args.program.now in
    let b = c.args.behaviour in
    let before = c.args.heap.now in
    let now = c.loop-leaf.heap in
    let after = c.done.new.heap in
    let x = c.leaf-item.result in
    let so = c.loop-leaf.invariant in
    let part = c.in_ok-part.ensures.done in
    let leaf = leaf_ready call_cmp _ (said_law p s0 before b) before now c.args.calls.now c.loop-leaf.leaf-index x c.loop-leaf.answers c.requires.calls (rw c.leaves-leaves.ensures at c.loop-leaf-test.true) (rw c.leaves-leaves.ensures at c.leaf-item.is) so (g.met.S.Space.lawful c.args.space.now) in
    IsDoing-step call_cmp _ (said_law p s0 before b) before now c.args.calls.now c.loop-leaf.leaf-index x c.loop-leaf.answers c.requires.calls (rw c.leaves-leaves.ensures at c.loop-leaf-test.true) (rw c.leaves-leaves.ensures at c.leaf-item.is) so c.in_ok-part.ensures.extends c.in_ok-answers-2.ensures.extends after c.in_ok-part.part c.in_ok-answers-2.answers part.kept part.is_cond part.scope
    (λ d t.
    let Q : Call → Type 0 = IsCallOr s0 before d b in
    let call = subst Q (leaf.is Illegal d t) (c.requires.each d (leaf.inside d t)) in
    IsSaid-same p s2 after d (said_over p s1 now (said s1 now b x.value) d) (said_over p s0 before (said s0 before b x.value) d) (answer_at s2 c.in_ok-part.part d) (said_over_later so.extends before now c.requires.heap so.kept.grows d b p x.value (leaf.same d t) call) (part.at d t))
    c.in_ok-answers-2.ensures.ok

pub returns-clause-extends : goal.returns-clause-extends
returns-clause-extends g c = c.loop-leaf.invariant.extends

pub returns-clause-done : goal.returns-clause-done
returns-clause-done g c = IsDoing-end Illegal call_cmp _ (g.met.S.Space.lawful c.loop-leaf.space) c.args.heap.now c.loop-leaf.heap c.args.calls.now c.loop-leaf.leaf-index c.loop-leaf.answers c.requires.calls (rw c.leaves-leaves.ensures at c.loop-leaf-test.false) c.loop-leaf.invariant
