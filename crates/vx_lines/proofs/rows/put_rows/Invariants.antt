use Rattle.std.proofs.Common.{◌≡◌, ◌++◌, List, length}
use Rattle.vx_lines.specs.Tables.{rows_in}
use Rattle.vx_lines.specs.declared.table.LineRow.{LineRow}
use Rattle.vx_lines.proofs.rows.put_rows.Given as goal

-- what was put behind the others so far, and what is still to be put
abbrev pub invariant-loop-row : goal.invariant-loop-row
invariant-loop-row l = (put : List LineRow) × (l.rows.items ≡ l.fn.rows.items ++ put) × (put ++ rows_in l.left ≡ rows_in l.bytes)

abbrev pub decreases-loop-row : goal.decreases-loop-row
decreases-loop-row l = length l.left
