use Rattle.std.proofs.Common.{◌≡◌, drop}
use Rattle.vx_lines.specs.Lines.{later, row_for}
use Rattle.vx_lines.proofs.table.row_for.Given as goal

abbrev pub invariant-loop-row : goal.invariant-loop-row
invariant-loop-row l = later l.found (row_for (drop l.row-index l.rows) l.position) ≡ row_for l.rows l.position
