use Rattle.vx_sound.proofs.PlacedRows.{rows_typed}
use Rattle.vx_sound.proofs.rows_keep_types.Goals as goal

pub returns : goal.returns
returns c = rows_typed
