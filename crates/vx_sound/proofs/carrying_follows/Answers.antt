use Rattle.vx_sound.proofs.Carrying.{carrying_from}
use Rattle.vx_sound.proofs.carrying_follows.Goals as goal

pub returns : goal.returns
returns c = carrying_from
