use Rattle.std.proofs.Common.{◌≡◌, map, take}
use Rattle.vx_code_parts.specs.Instructions.{row_of}
use Rattle.vx_code_parts.proofs.drafting.rows.Given as goal

abbrev pub invariant-loop-case : goal.invariant-loop-case
invariant-loop-case l = l.rows.items ≡ map (row_of l.labels) (take l.case-index l.cases)
