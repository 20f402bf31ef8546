use Rattle.vx_plain.proofs.Found.{held_is}
use Rattle.vx_plain_here.proofs.lengths.int_of.Goals as goal

pub returns : goal.returns
returns c = held_is _ _ _ c.int_if.ensures c.held.ensures.value
