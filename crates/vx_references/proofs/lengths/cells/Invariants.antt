use Rattle.std.proofs.Common.{◌≡◌, ◌-◌, ◌^◌, drop, map, min}
use Rattle.vx_java.specs.Arrays.{grid_cells}
use Rattle.vx_value.specs.Arithmetic.{natural}
use Rattle.vx_references.proofs.lengths.cells.Given as goal

abbrev pub invariant-loop-inner : goal.invariant-loop-inner
invariant-loop-inner l = l.total ≡ min (grid_cells (map natural (drop (l.count - l.inner) l.lengths))) (2 ^ 64 - 1)
