use Rattle.vx_sound_classes.proofs.Whole.{linked_have_forms}
use Rattle.vx_sound_classes.proofs.linked_have_forms.Goals as goal

pub returns : goal.returns
returns c = linked_have_forms
