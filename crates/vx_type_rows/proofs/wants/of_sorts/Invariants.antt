use Rattle.std.proofs.Common.{◌≡◌, map, take}
use Rattle.vx_types.specs.declared.types.Want.TheVariants.{OfSort}
use Rattle.vx_type_rows.proofs.wants.of_sorts.Given as goal

abbrev pub invariant-loop-sort : goal.invariant-loop-sort
invariant-loop-sort l = l.wants.items ≡ map OfSort (take l.sort-index l.sorts)
