use Rattle.std.proofs.Common.{false, ◌∙◌}
use Rattle.std.proofs.lemmas.List.{length-set, length-replicate}
use Rattle.vx_pool.proofs.Marks.{none_marked, one_marked}
use Rattle.vx_pool.proofs.starts.marks_of.Goals as goal

pub loop-place-init : goal.loop-place-init
loop-place-init c = rw (c.in_ok-marks.ensures.items_if_clones_equal (λ y e. e)) (record { marked = none_marked c.args.count; room = length-replicate c.args.count false })

pub loop-place-preserved : goal.loop-place-preserved
loop-place-preserved c = record {
  marked = one_marked c.loop-place.marks.items c.args.places.now c.loop-place.place-index c.loop-place-test.true (rw c.loop-place.invariant.room (c.requires c.loop-place.place-index 0 c.loop-place-test.true)) c.loop-place.invariant.marked;
  room = length-set _ _ _ ∙ c.loop-place.invariant.room;
}
