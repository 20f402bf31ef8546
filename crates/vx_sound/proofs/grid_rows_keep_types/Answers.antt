use Rattle.vx_sound.proofs.GridRows.{grids_keep_types}
use Rattle.vx_sound.proofs.grid_rows_keep_types.Goals as goal

pub returns : goal.returns
returns c = grids_keep_types
