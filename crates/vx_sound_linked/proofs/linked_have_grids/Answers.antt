use Rattle.vx_sound_linked.proofs.GridPrograms.{linked_grids}
use Rattle.vx_sound_linked.proofs.linked_have_grids.Goals as goal

pub returns : goal.returns
returns c = linked_grids
