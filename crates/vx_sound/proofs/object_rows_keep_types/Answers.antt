use Rattle.vx_sound.proofs.Operations.{objects_keep_types}
use Rattle.vx_sound.proofs.object_rows_keep_types.Goals as goal

pub returns : goal.returns
returns c = objects_keep_types
