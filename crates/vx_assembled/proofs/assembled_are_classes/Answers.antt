use Rattle.vx_assembled.proofs.Whole.{assembled_read}
use Rattle.vx_assembled.proofs.assembled_are_classes.Goals as goal

pub returns : goal.returns
returns c = assembled_read
