use Rattle.std.proofs.Common.{take}
use Rattle.vx_interact.proofs.OptionBits.{AreBitsSoFar}
use Rattle.vx_interact.proofs.bits.option_bits.Given as goal

abbrev pub invariant-loop-node : goal.invariant-loop-node
invariant-loop-node l = AreBitsSoFar l.options (take l.node-index l.nodes) l.bits.items
