use Rattle.std.proofs.Common.{◌≡◌, ◌++◌, take}
use Rattle.std.specs.List.{flat_map}
use Rattle.vx_code_parts.specs.Drafts.{row_bytes}
use Rattle.vx_code_parts.proofs.drafts.put_rows.Given as goal

abbrev pub invariant-loop-row : goal.invariant-loop-row
invariant-loop-row l = l.out.items ≡ l.fn.out.items ++ flat_map (row_bytes l.places l.at) (take l.row-index l.rows)
