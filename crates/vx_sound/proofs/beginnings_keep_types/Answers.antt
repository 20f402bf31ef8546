use Rattle.vx_sound.proofs.Beginning.{begin_typed}
use Rattle.vx_sound.proofs.beginnings_keep_types.Goals as goal

pub returns : goal.returns
returns c = λ p typings s class sound are typed. begin_typed p typings sound are s typed class
