use Rattle.vx_cond.proofs.LeafLoops.{next_known}
use Rattle.vx_group_states.proofs.Gathering.{AreLeaves-of}
use Rattle.vx_cells.specs.Places.{place_cmp}
use Rattle.vx_cells.proofs.Passing.{IsPassing-apart, IsPassing-end, IsPassing-start, IsPassing-step}
use Rattle.vx_cells.proofs.refusing.passes_at.Goals as goal

pub loop-leaf-init : goal.loop-leaf-init
loop-leaf-init g c = IsPassing-start c.args.program.now _ (g.met.S.Space.lawful c.args.space.now) c.args.heap.now c.args.places.now c.in_ok-answers.answers (rw c.never.ensures at c.in_ok-answers.ensures.ok)

pub with_answer-requires-clause-known : goal.with_answer-requires-clause-known
with_answer-requires-clause-known g c = next_known place_cmp c.args.places.now.leaves c.loop-leaf.leaf-index c.leaf-item.result (AreLeaves-of place_cmp _ c.args.places.now c.requires.places) (rw c.leaves-leaves.ensures at c.loop-leaf-test.true) (rw c.leaves-leaves.ensures at c.leaf-item.is) c.loop-leaf.invariant.extends

pub with_answer-requires-clause-disjoint : goal.with_answer-requires-clause-disjoint
with_answer-requires-clause-disjoint g c = IsPassing-apart c.args.program.now _ _ c.args.heap.now c.loop-leaf.heap c.args.places.now c.loop-leaf.leaf-index c.leaf-item.result c.loop-leaf.answers c.requires.places (rw c.leaves-leaves.ensures at c.loop-leaf-test.true) (rw c.leaves-leaves.ensures at c.leaf-item.is) c.loop-leaf.invariant

pub loop-leaf-preserved : goal.loop-leaf-preserved
loop-leaf-preserved g c = IsPassing-step c.args.program.now c.in_ok-answers-2.ensures.extends c.args.heap.now c.loop-leaf.heap c.answer_at.new.heap c.args.places.now c.loop-leaf.leaf-index c.leaf-item.result c.loop-leaf.answers c.in_ok-answers-2.answers c.in_ok-answer.answer c.requires.places (rw c.leaves-leaves.ensures at c.loop-leaf-test.true) (rw c.leaves-leaves.ensures at c.leaf-item.is) c.loop-leaf.invariant c.in_ok-answer.ensures.more (c.in_ok-answer.ensures.answer c.args.program.now c.refusals_of-refusals.ensures) c.in_ok-answers-2.ensures.ok

pub returns-clause-ok : goal.returns-clause-ok
returns-clause-ok g c = IsPassing-end c.args.program.now (g.met.S.Space.lawful c.loop-leaf.space) c.args.heap.now c.loop-leaf.heap c.args.places.now c.loop-leaf.leaf-index c.loop-leaf.answers c.requires.places (rw c.leaves-leaves.ensures at c.loop-leaf-test.false) c.loop-leaf.invariant
