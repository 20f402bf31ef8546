use Rattle.vx_spelled_ends.proofs.Sound.{linked_sound}
use Rattle.vx_spelled_ends.proofs.laws.linked_are_sound.Goals as goal

pub returns : goal.returns
returns c = linked_sound
