use Rattle.std.proofs.Common.{◌≡◌, map, take}
use Rattle.std.specs.List.{list_any}
use Rattle.vx_ancestry.specs.Ancestors.{leads_to}
use Rattle.vx_ancestry.proofs.below.one_step_more.Given as goal

abbrev pub invariant-loop-row : goal.invariant-loop-row
invariant-loop-row l = l.more.items ≡ map (λ row. list_any (leads_to l.above l.below) row) (take l.row-index l.parents)
