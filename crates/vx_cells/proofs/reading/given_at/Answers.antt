use Rattle.vx_cond.proofs.CondLaws.{IsCond-extends}
use Rattle.vx_cond.proofs.LeafLoops.{next_known}
use Rattle.vx_group_states.proofs.Gathering.{AreLeaves-of}
use Rattle.vx_group_states.specs.Answers.{answer_cmp}
use Rattle.vx_heap.proofs.HeapLaws.{IsHeap-extends}
use Rattle.vx_cells.specs.Places.{place_cmp}
use Rattle.vx_cells.proofs.Giving.{IsGiving-skip, IsGiving-step, given_within}
use Rattle.vx_cells.proofs.WrittenThrough.{leaf_object, no_cell}
use Rattle.vx_cells.proofs.reading.given_at.Goals.{in-At+in_ok-given+in_ok-made, in_default}
use Rattle.vx_cells.proofs.reading.given_at.Goals as goal

pub given_inside-requires-clause-heap : goal.given_inside-requires-clause-heap
given_inside-requires-clause-heap g c = IsHeap-extends c.loop-leaf.invariant.extends c.args.heap.now c.requires.heap

pub given_inside-requires-clause-reference : goal.given_inside-requires-clause-reference
given_inside-requires-clause-reference g c = (leaf_object (g.met.S.Space.lawful c.args.space.now) c.loop-leaf.invariant.extends c.args.heap.now c.args.places.now c.loop-leaf.leaf-index c.leaf-item.result c.in-At.reference c.in-At.cell c.requires.heap c.requires.places c.requires.held (rw c.leaves-leaves.ensures at c.loop-leaf-test.true) (rw c.leaves-leaves.ensures at c.leaf-item.is) c.in-At.is).0

pub given_inside-requires-clause-known : goal.given_inside-requires-clause-known
given_inside-requires-clause-known g c = next_known place_cmp c.args.places.now.leaves c.loop-leaf.leaf-index c.leaf-item.result (AreLeaves-of place_cmp _ c.args.places.now c.requires.places) (rw c.leaves-leaves.ensures at c.loop-leaf-test.true) (rw c.leaves-leaves.ensures at c.leaf-item.is) c.loop-leaf.invariant.extends

pub given_inside-requires-clause-inside : goal.given_inside-requires-clause-inside
given_inside-requires-clause-inside g c = (leaf_object (g.met.S.Space.lawful c.args.space.now) c.loop-leaf.invariant.extends c.args.heap.now c.args.places.now c.loop-leaf.leaf-index c.leaf-item.result c.in-At.reference c.in-At.cell c.requires.heap c.requires.places c.requires.held (rw c.leaves-leaves.ensures at c.loop-leaf-test.true) (rw c.leaves-leaves.ensures at c.leaf-item.is) c.in-At.is).1

pub overwrite-requires-clause-old : goal.overwrite-requires-clause-old
overwrite-requires-clause-old g c = IsCond-extends answer_cmp c.in_ok-given.ensures.extends c.loop-leaf.made c.loop-leaf.invariant.is_cond

pub overwrite-requires-clause-inside : goal.overwrite-requires-clause-inside
overwrite-requires-clause-inside g c = given_within c.in_ok-given.ensures.extends c.args.heap.now c.args.places.now c.args.answers c.loop-leaf.made c.in_ok-given.given c.loop-leaf.leaf-index c.leaf-item.result c.requires.places (rw c.leaves-leaves.ensures at c.loop-leaf-test.true) (rw c.leaves-leaves.ensures at c.leaf-item.is) c.loop-leaf.invariant c.in_ok-given.ensures.scope

pub loop-leaf-preserved : goal.loop-leaf-preserved
loop-leaf-preserved g c = elim c.match-leaf.branch [
  | in-At+in_ok-given+in_ok-made w ↦ rw (w.space-is, w.made-is) (IsGiving-step (g.met.S.Space.lawful w.overwrite.new.space) w.in_ok-given.ensures.extends w.in_ok-made.ensures.extends c.args.heap.now c.args.places.now c.args.answers c.loop-leaf.made w.in_ok-given.given w.in_ok-made.made c.loop-leaf.leaf-index c.leaf-item.result w.in-At.reference w.in-At.cell c.requires.heap c.requires.places (rw c.leaves-leaves.ensures at c.loop-leaf-test.true) (rw c.leaves-leaves.ensures at c.leaf-item.is) w.in-At.is c.loop-leaf.invariant w.in_ok-given.ensures.cond w.in_ok-given.ensures.scope w.in_ok-given.ensures.at w.in_ok-made.ensures.ok)
  | in_default w ↦ rw (w.space-is, w.made-is) (IsGiving-skip _ _ c.args.heap.now c.args.places.now c.args.answers c.loop-leaf.made c.loop-leaf.leaf-index c.leaf-item.result c.requires.places (rw c.leaves-leaves.ensures at c.loop-leaf-test.true) (rw c.leaves-leaves.ensures at c.leaf-item.is) (no_cell c.leaf-item.result.value w.in_default.not-At) c.loop-leaf.invariant)
]
