use Rattle.vx_sound.proofs.Operations.{arrays_keep_types}
use Rattle.vx_sound.proofs.array_rows_keep_types.Goals as goal

pub returns : goal.returns
returns c = arrays_keep_types
