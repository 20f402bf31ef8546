use Rattle.std.proofs.Common.{◌-◌, arith}
use Rattle.vx_heap.proofs.Beginnings.{chain_done}
use Rattle.vx_heap.proofs.defaults.new_slots.Goals as goal

pub returns : goal.returns
returns c = chain_done c.args.empty c.args.program.now c.in_ok-chain.chain.items (c.len-count.result - c.loop-below.below) c.args.class.0 c.loop-below.slots.items (omega (arith, c.loop-below-test.false)) c.in_ok-chain.ensures c.loop-below.invariant
