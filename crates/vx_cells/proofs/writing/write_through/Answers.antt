use Rattle.vx_cond.proofs.CondLaws.{IsCond-extends, IsCond-of}
use Rattle.vx_cond.proofs.LeafLoops.{next_known}
use Rattle.vx_value.specs.Slot.{slot_cmp}
use Rattle.vx_group_states.proofs.Gathering.{AreLeaves-of}
use Rattle.vx_heap.proofs.HeapLaws.{IsHeap-extends}
use Rattle.vx_cells.specs.Places.{place_cmp}
use Rattle.vx_cells.proofs.WrittenThrough.{IsWriting-skip, IsWriting-start, IsWriting-step, no_cell, writable}
use Rattle.vx_cells.proofs.writing.write_through.Goals.{in-At+in_ok-value+in_ok-write_cell, in_default}
use Rattle.vx_cells.proofs.writing.write_through.Goals as goal

pub loop-leaf-init : goal.loop-leaf-init
loop-leaf-init g c = IsWriting-start _ c.args.heap.now c.args.places.now c.args.values.now c.requires.heap

pub restrict-requires-clause-valid : goal.restrict-requires-clause-valid
restrict-requires-clause-valid g c = IsCond-extends slot_cmp c.loop-leaf.invariant.extends c.args.values.now c.requires.values

pub restrict-requires-clause-known : goal.restrict-requires-clause-known
restrict-requires-clause-known g c = next_known place_cmp c.args.places.now.leaves c.loop-leaf.leaf-index c.leaf-item.result (AreLeaves-of place_cmp _ c.args.places.now c.requires.places) (rw c.leaves-leaves.ensures at c.loop-leaf-test.true) (rw c.leaves-leaves.ensures at c.leaf-item.is) c.loop-leaf.invariant.extends

pub write_cell-requires-clause-heap : goal.write_cell-requires-clause-heap
write_cell-requires-clause-heap g c = IsHeap-extends c.in_ok-value.ensures.extends c.loop-leaf.heap c.loop-leaf.invariant.changed.is_heap

pub write_cell-requires-clause-reference : goal.write_cell-requires-clause-reference
write_cell-requires-clause-reference g c = (writable (g.met.S.Space.lawful c.args.space.now) (g.met.S.Space.lawful c.restrict.new.space) c.in_ok-value.ensures.extends c.args.heap.now c.loop-leaf.heap c.args.places.now c.args.values.now c.in_ok-value.value c.loop-leaf.leaf-index c.leaf-item.result c.in-At.reference c.in-At.cell c.requires.heap c.requires.places c.requires.values c.requires.scopes c.requires.objects c.requires.held (rw c.leaves-leaves.ensures at c.loop-leaf-test.true) (rw c.leaves-leaves.ensures at c.leaf-item.is) c.in-At.is c.loop-leaf.invariant c.in_ok-value.ensures.ok).there

pub write_cell-requires-clause-value : goal.write_cell-requires-clause-value
write_cell-requires-clause-value g c = IsCond-of slot_cmp _ _ c.in_ok-value.value c.in_ok-value.ensures.ok

pub write_cell-requires-clause-inside : goal.write_cell-requires-clause-inside
write_cell-requires-clause-inside g c = (writable (g.met.S.Space.lawful c.args.space.now) (g.met.S.Space.lawful c.restrict.new.space) c.in_ok-value.ensures.extends c.args.heap.now c.loop-leaf.heap c.args.places.now c.args.values.now c.in_ok-value.value c.loop-leaf.leaf-index c.leaf-item.result c.in-At.reference c.in-At.cell c.requires.heap c.requires.places c.requires.values c.requires.scopes c.requires.objects c.requires.held (rw c.leaves-leaves.ensures at c.loop-leaf-test.true) (rw c.leaves-leaves.ensures at c.leaf-item.is) c.in-At.is c.loop-leaf.invariant c.in_ok-value.ensures.ok).inside

pub write_cell-requires-clause-held : goal.write_cell-requires-clause-held
write_cell-requires-clause-held g c = (writable (g.met.S.Space.lawful c.args.space.now) (g.met.S.Space.lawful c.restrict.new.space) c.in_ok-value.ensures.extends c.args.heap.now c.loop-leaf.heap c.args.places.now c.args.values.now c.in_ok-value.value c.loop-leaf.leaf-index c.leaf-item.result c.in-At.reference c.in-At.cell c.requires.heap c.requires.places c.requires.values c.requires.scopes c.requires.objects c.requires.held (rw c.leaves-leaves.ensures at c.loop-leaf-test.true) (rw c.leaves-leaves.ensures at c.leaf-item.is) c.in-At.is c.loop-leaf.invariant c.in_ok-value.ensures.ok).held

pub loop-leaf-preserved : goal.loop-leaf-preserved
loop-leaf-preserved g c = elim c.match-leaf.branch [
  | in-At+in_ok-value+in_ok-write_cell w ↦ rw (w.space-is, w.heap-is) (IsWriting-step (g.met.S.Space.lawful w.restrict.new.space) w.in_ok-value.ensures.extends w.in_ok-write_cell.ensures.extends c.args.heap.now c.loop-leaf.heap w.write_cell.new.self c.args.places.now c.args.values.now w.in_ok-value.value c.loop-leaf.leaf-index c.leaf-item.result w.in-At.reference w.in-At.cell c.requires.heap c.requires.places c.requires.values c.requires.scopes c.requires.objects c.requires.held (rw c.leaves-leaves.ensures at c.loop-leaf-test.true) (rw c.leaves-leaves.ensures at c.leaf-item.is) w.in-At.is c.loop-leaf.invariant w.in_ok-value.ensures.ok w.in_ok-write_cell.ensures.ok)
  | in_default w ↦ rw (w.space-is, w.heap-is) (IsWriting-skip _ _ c.args.heap.now c.loop-leaf.heap c.args.places.now c.args.values.now c.loop-leaf.leaf-index c.leaf-item.result c.requires.places (rw c.leaves-leaves.ensures at c.loop-leaf-test.true) (rw c.leaves-leaves.ensures at c.leaf-item.is) (no_cell c.leaf-item.result.value w.in_default.not-At) c.loop-leaf.invariant)
]
