use Rattle.std.proofs.Common.{◌<◌, ◌-◌, arith}
use Rattle.std.proofs.lemmas.Option.{slice_get-get_or}
use Rattle.vx_tally.specs.declared.node.TallyNode.{TallyNode}
use Rattle.vx_tally.proofs.ReachedLaws.{AreBounds-start, AreBounds-push}
use Rattle.vx_tally.proofs.reached.bounds.Goals as goal

abbrev no_node : TallyNode
no_node = record { option = 0; low = record { place = 0; more = 0 }; high = record { place = 0; more = 0 } }

pub loop-index-init : goal.loop-index-init
loop-index-init c = rw (c.in_ok-push.ensures.items, c.new-bounds.ensures.items) (AreBounds-start c.args.nodes.now)

pub bound_of-low-requires : goal.bound_of-low-requires
bound_of-low-requires c =
    let r = c.requires.each c.loop-index.index _ (slice_get-get_or c.args.nodes.now c.loop-index.index no_node c.loop-index-test.true) in
    rw c.as_slice.ensures.value (omega (arith, r.low_given, c.loop-index.invariant.number))

pub bound_of-high-requires : goal.bound_of-high-requires
bound_of-high-requires c =
    let r = c.requires.each c.loop-index.index _ (slice_get-get_or c.args.nodes.now c.loop-index.index no_node c.loop-index-test.true) in
    rw c.as_slice-in-loop-index.ensures.value (omega (arith, r.high_given, c.loop-index.invariant.number))

pub loop-index-preserved : goal.loop-index-preserved
loop-index-preserved c = rw c.in_ok-push-2.ensures.items (AreBounds-push c.requires c.loop-index.index no_node c.loop-index.bounds.items _ _ _ c.loop-index-test.true c.loop-index.invariant (rw c.as_slice.ensures.value at c.bound_of-low.ensures) (rw c.as_slice-in-loop-index.ensures.value at c.bound_of-high.ensures) c.max.ensures)
