use Rattle.std.proofs.Common.{arith}
use Rattle.vx_bdd_tools.specs.declared.node.Node.{Node}
use Rattle.vx_bdd_tools.proofs.ListedSets.{next_at}
use Rattle.vx_interact.proofs.OptionBits.{AreBitsSoFar-none, AreBitsSoFar-step}
use Rattle.vx_interact.proofs.bits.option_bits.Goals as goal

abbrev nothing : Node
nothing = record { option = 0; low = 0; high = 0 }

pub loop-node-init : goal.loop-node-init
loop-node-init c = rw (c.in_ok-bits.ensures.items_if_clones_equal (λ y e. e)) (AreBitsSoFar-none c.args.options)

pub node_bits-own-requires : goal.node_bits-own-requires
node_bits-own-requires c =
    let n = next_at c.args.options c.args.nodes.now c.loop-node.node-index nothing c.requires.reduced c.loop-node-test.true in
    omega (arith, n.in_range, c.requires.few)

pub loop-node-preserved : goal.loop-node-preserved
loop-node-preserved c =
    let own = rw c.as_slice.ensures.value at c.node_bits-own.ensures in
    rw c.in_ok-push.ensures.items (AreBitsSoFar-step c.args.options c.args.nodes.now c.loop-node.node-index nothing c.loop-node.bits.items c.node_bits-own.result c.requires.few c.requires.reduced c.loop-node-test.true c.loop-node.invariant own)
