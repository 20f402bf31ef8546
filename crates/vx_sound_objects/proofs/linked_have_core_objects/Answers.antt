use Rattle.vx_sound_objects.proofs.Whole as whole
use Rattle.vx_sound_objects.proofs.linked_have_core_objects.Goals as goal

pub returns : goal.returns
returns c = whole.linked_have_core_objects
