use Rattle.vx_sound_classes.proofs.Whole.{linked_have_hierarchy}
use Rattle.vx_sound_classes.proofs.linked_have_hierarchy.Goals as goal

pub returns : goal.returns
returns c = linked_have_hierarchy
