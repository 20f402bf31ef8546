use Rattle.std.proofs.Common.{◌∙◌}
use Rattle.vx_cond.proofs.CondLaws.{IsCond-extends, IsCond-of}
use Rattle.vx_group_states.specs.Answers.{answer_cmp}
use Rattle.vx_copy.proofs.ClonedLeaves.{IsCloning-end, IsCloning-start, IsCloning-step, leaf_apart, leaf_held, leaf_known, leaf_somewhere}
use Rattle.vx_copy.proofs.cloning.clones.Goals as goal

pub loop-leaf-init : goal.loop-leaf-init
loop-leaf-init g c = IsCloning-start c.args.program.now _ c.args.heap.now c.args.receivers.now c.in_ok-answers.answers c.requires.heap (IsCond-of answer_cmp _ _ c.in_ok-answers.answers c.in_ok-answers.ensures.ok)

pub cloned-requires-clause-heap : goal.cloned-requires-clause-heap
cloned-requires-clause-heap g c = c.loop-leaf.invariant.made.changed.is_heap

pub cloned-requires-clause-known : goal.cloned-requires-clause-known
cloned-requires-clause-known g c = leaf_known c.args.program.now c.args.heap.now c.loop-leaf.heap c.args.receivers.now c.loop-leaf.leaf-index c.leaf-item.result c.in_ok-answers.answers c.loop-leaf.answers c.requires.heap c.requires.receivers c.requires.held (rw c.leaves-leaves.ensures at c.loop-leaf-test.true) (rw c.leaves-leaves.ensures at c.leaf-item.is) c.loop-leaf.invariant

pub cloned-requires-clause-somewhere : goal.cloned-requires-clause-somewhere
cloned-requires-clause-somewhere g c = leaf_somewhere c.args.program.now c.args.heap.now c.loop-leaf.heap c.args.receivers.now c.loop-leaf.leaf-index c.leaf-item.result c.in_ok-answers.answers c.loop-leaf.answers c.requires.heap c.requires.receivers c.requires.held (rw c.leaves-leaves.ensures at c.loop-leaf-test.true) (rw c.leaves-leaves.ensures at c.leaf-item.is) c.loop-leaf.invariant (g.met.S.Space.lawful c.args.space.now)

pub cloned-requires-clause-held : goal.cloned-requires-clause-held
cloned-requires-clause-held g c = leaf_held c.args.program.now c.args.heap.now c.loop-leaf.heap c.args.receivers.now c.loop-leaf.leaf-index c.leaf-item.result c.in_ok-answers.answers c.loop-leaf.answers c.requires.heap c.requires.receivers c.requires.held (rw c.leaves-leaves.ensures at c.loop-leaf-test.true) (rw c.leaves-leaves.ensures at c.leaf-item.is) c.loop-leaf.invariant

pub with_answer-requires-clause-answers : goal.with_answer-requires-clause-answers
with_answer-requires-clause-answers g c = IsCond-extends answer_cmp c.in_ok-answer.ensures.extends c.loop-leaf.answers c.loop-leaf.invariant.made.is_cond

pub with_answer-requires-clause-known : goal.with_answer-requires-clause-known
with_answer-requires-clause-known g c = c.in_ok-answer.ensures.extends.known c.leaf-item.result.condition (leaf_known c.args.program.now c.args.heap.now c.loop-leaf.heap c.args.receivers.now c.loop-leaf.leaf-index c.leaf-item.result c.in_ok-answers.answers c.loop-leaf.answers c.requires.heap c.requires.receivers c.requires.held (rw c.leaves-leaves.ensures at c.loop-leaf-test.true) (rw c.leaves-leaves.ensures at c.leaf-item.is) c.loop-leaf.invariant)

pub with_answer-requires-clause-disjoint : goal.with_answer-requires-clause-disjoint
with_answer-requires-clause-disjoint g c = leaf_apart c.args.program.now c.args.heap.now c.loop-leaf.heap c.args.receivers.now c.loop-leaf.leaf-index c.leaf-item.result c.in_ok-answers.answers c.loop-leaf.answers c.requires.heap c.requires.receivers c.requires.held (rw c.leaves-leaves.ensures at c.loop-leaf-test.true) (rw c.leaves-leaves.ensures at c.leaf-item.is) c.loop-leaf.invariant (g.met.S.Space.lawful c.args.space.now) c.in_ok-answer.ensures.extends (c.in_ok-answers.ensures.scope ∙ c.never.ensures)

pub loop-leaf-preserved : goal.loop-leaf-preserved
loop-leaf-preserved g c = IsCloning-step c.args.program.now c.args.heap.now c.loop-leaf.heap c.args.receivers.now c.loop-leaf.leaf-index c.leaf-item.result c.in_ok-answers.answers c.loop-leaf.answers c.requires.heap c.requires.receivers c.requires.held (rw c.leaves-leaves.ensures at c.loop-leaf-test.true) (rw c.leaves-leaves.ensures at c.leaf-item.is) c.loop-leaf.invariant c.in_ok-answer.ensures.extends c.in_ok-answers-2.ensures.extends c.cloned.new.heap c.in_ok-answer.answer c.in_ok-answers-2.answers c.in_ok-answer.ensures.ok c.in_ok-answers-2.ensures.ok

pub returns-clause-ok : goal.returns-clause-ok
returns-clause-ok g c = IsCloning-end c.args.program.now (g.met.S.Space.lawful c.args.space.now) (g.met.S.Space.lawful c.loop-leaf.space) c.args.heap.now c.loop-leaf.heap c.args.receivers.now c.loop-leaf.leaf-index c.in_ok-answers.answers c.loop-leaf.answers c.requires.receivers (c.in_ok-answers.ensures.scope ∙ c.never.ensures) (rw c.leaves-leaves.ensures at c.loop-leaf-test.false) c.loop-leaf.invariant
