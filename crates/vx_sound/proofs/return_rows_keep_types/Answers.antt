use Rattle.vx_sound.proofs.Operations.{returns_keep_types}
use Rattle.vx_sound.proofs.return_rows_keep_types.Goals as goal

pub returns : goal.returns
returns c = returns_keep_types
