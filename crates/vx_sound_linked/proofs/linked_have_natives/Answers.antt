use Rattle.vx_sound_linked.proofs.NativePrograms.{linked_natives}
use Rattle.vx_sound_linked.proofs.linked_have_natives.Goals as goal

pub returns : goal.returns
returns c = linked_natives
