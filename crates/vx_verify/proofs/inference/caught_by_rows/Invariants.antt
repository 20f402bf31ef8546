use Rattle.std.proofs.Common.{take}
use Rattle.vx_verify.specs.Inference.{AreCaught}
use Rattle.vx_verify.proofs.inference.caught_by_rows.Given as goal

abbrev pub invariant-loop-row : goal.invariant-loop-row
invariant-loop-row l = AreCaught l.program l.method.0 l.fn.store l.store (take l.row-index l.rows) l.caught.items
