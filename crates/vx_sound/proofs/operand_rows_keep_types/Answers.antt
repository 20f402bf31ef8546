use Rattle.vx_sound.proofs.OperandRows.{operand_rows_typed}
use Rattle.vx_sound.proofs.operand_rows_keep_types.Goals as goal

pub returns : goal.returns
returns c = operand_rows_typed
