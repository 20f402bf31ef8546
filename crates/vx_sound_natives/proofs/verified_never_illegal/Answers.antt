use Rattle.vx_sound_natives.proofs.Whole.{runs_never_illegal}
use Rattle.vx_sound_natives.proofs.verified_never_illegal.Goals as goal

pub returns : goal.returns
returns c = runs_never_illegal
