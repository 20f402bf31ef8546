use Rattle.std.proofs.Common.{arith, get_or}
use Rattle.vx_space.proofs.Spaces.{Extends-trans}
use Rattle.vx_bdd_tools.specs.declared.node.Node.{Node}
use Rattle.vx_bdd_tools.proofs.ListedSets.{next_at}
use Rattle.vx_compare.proofs.SeenSets.{AreSeenSoFar-none, AreSeenSoFar-step, all_seen, known_at_number, place_in}
use Rattle.vx_compare.proofs.wide.seen_sets.Goals as goal

abbrev nothing : Node
nothing = record { option = 0; low = 0; high = 0 }

pub bounds-places-node : goal.bounds-places-node
bounds-places-node g c = (next_at _ c.args.nodes.now c.loop-node.node-index nothing c.requires.nodes c.loop-node-test.true).in_range

pub index-requires : goal.index-requires
index-requires g c =
    let n = next_at _ c.args.nodes.now c.loop-node.node-index nothing c.requires.nodes c.loop-node-test.true in
    omega (arith, n.low_given, c.loop-node.invariant.so_far.are.number, c.loop-node.ids.ok)

pub index-requires-in-loop-node : goal.index-requires-in-loop-node
index-requires-in-loop-node g c =
    let n = next_at _ c.args.nodes.now c.loop-node.node-index nothing c.requires.nodes c.loop-node-test.true in
    omega (arith, n.high_given, c.loop-node.invariant.so_far.are.number, c.loop-node.ids.ok)

pub choice-requires-clause-option : goal.choice-requires-clause-option
choice-requires-clause-option g c =
    let n = next_at _ c.args.nodes.now c.loop-node.node-index nothing c.requires.nodes c.loop-node-test.true in
    let place = place_in _ c.args.places.now (get_or c.args.nodes.now c.loop-node.node-index nothing).option 0 c.requires.places n.in_range in
    omega (arith, place, c.loop-node.invariant.extends.options)

pub choice-requires-clause-low : goal.choice-requires-clause-low
choice-requires-clause-low g c =
    let n = next_at _ c.args.nodes.now c.loop-node.node-index nothing c.requires.nodes c.loop-node-test.true in
    known_at_number c.loop-node.invariant.so_far _ c.index.result.now n.low_given c.index.ensures

pub choice-requires-clause-high : goal.choice-requires-clause-high
choice-requires-clause-high g c =
    let n = next_at _ c.args.nodes.now c.loop-node.node-index nothing c.requires.nodes c.loop-node-test.true in
    known_at_number c.loop-node.invariant.so_far _ c.index-in-loop-node.result.now n.high_given c.index-in-loop-node.ensures

pub loop-node-preserved : goal.loop-node-preserved
loop-node-preserved g c = record {
  extends = Extends-trans c.loop-node.invariant.extends c.choice.ensures.extends;
  so_far = rw c.in_ok-push-3.ensures.items (AreSeenSoFar-step c.choice.ensures.extends c.args.places.now c.args.nodes.now c.loop-node.node-index nothing c.loop-node.ids.items c.index.result.now c.index-in-loop-node.result.now c.in_ok-id.id c.requires.nodes c.loop-node-test.true c.loop-node.invariant.so_far c.index.ensures c.index-in-loop-node.ensures c.in_ok-id.ensures.ok);
}

pub returns-clause-sets : goal.returns-clause-sets
returns-clause-sets g c = all_seen c.args.places.now c.args.nodes.now c.loop-node.node-index c.loop-node.ids.items c.loop-node-test.false c.loop-node.invariant.so_far
