use Rattle.vx_sound_linked.proofs.Whole.{linked_are_sound}
use Rattle.vx_sound_linked.proofs.linked_are_sound.Goals as goal

pub returns : goal.returns
returns c = linked_are_sound
