use Rattle.vx_sound.proofs.Unwinding.{next_typed}
use Rattle.vx_sound.proofs.next_keeps_types.Goals as goal

pub returns : goal.returns
returns c = λ p typings o sound are typed. next_typed p typings sound are o typed
