use Rattle.vx_sound.proofs.Starting.{start_typed}
use Rattle.vx_sound.proofs.start_is_typed.Goals as goal

pub returns : goal.returns
returns c = λ p typings sound are config. start_typed p typings sound are config
