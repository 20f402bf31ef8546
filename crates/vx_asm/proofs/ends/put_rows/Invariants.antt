use Rattle.std.proofs.Common.{◌≡◌, drop}
use Rattle.vx_asm.specs.Bodies.{with_rows}
use Rattle.vx_asm.proofs.ends.put_rows.Given as goal

abbrev pub invariant-loop-row : goal.invariant-loop-row
invariant-loop-row l = with_rows l.pool (drop l.row-index l.rows) ≡ with_rows l.fn.pool l.rows
