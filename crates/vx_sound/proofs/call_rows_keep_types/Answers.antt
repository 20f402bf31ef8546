use Rattle.vx_sound.proofs.CallRows.{calls_keep_types}
use Rattle.vx_sound.proofs.call_rows_keep_types.Goals as goal

pub returns : goal.returns
returns c = calls_keep_types
