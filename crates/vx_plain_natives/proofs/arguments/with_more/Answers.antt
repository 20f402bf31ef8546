use Rattle.vx_plain.proofs.Found.{held_is}
use Rattle.vx_plain_natives.proofs.arguments.with_more.Goals as goal

pub returns : goal.returns
returns c = held_is _ _ _ c.with_value.ensures c.held.ensures.value
