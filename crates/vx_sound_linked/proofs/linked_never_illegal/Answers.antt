use Rattle.vx_sound_linked.proofs.Whole.{linked_never_illegal}
use Rattle.vx_sound_linked.proofs.linked_never_illegal.Goals as goal

pub returns : goal.returns
returns c = linked_never_illegal
