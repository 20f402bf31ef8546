use Rattle.vx_interact.proofs.OptionBits.{IsWithOwn-or}
use Rattle.vx_interact.proofs.bits.node_bits.Goals as goal

pub returns : goal.returns
returns c = rw (c.bits_of.ensures, c.bits_of-2.ensures) (IsWithOwn-or c.args.node.option _ _ c.requires)
