use Rattle.std.proofs.Common.{map, take}
use Rattle.vx_core.specs.Drafts.{Adds}
use Rattle.vx_core.specs.Rows.{row_file, row_numbers}
use Rattle.vx_core.proofs.draft.put_rows.Given as goal

abbrev pub invariant-loop-row : goal.invariant-loop-row
invariant-loop-row l = Adds l.fn.draft l.draft (map row_file (take l.row-index l.rows)) (map row_numbers (take l.row-index l.rows))
