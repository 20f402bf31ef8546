use Rattle.std.proofs.Common.{◌≡◌, map, take}
use Rattle.vx_java.specs.Texts.{unit_of}
use Rattle.vx_plain.specs.Views.{value_of}
use Rattle.vx_plain_strings.proofs.texts.units_in.Given as goal

abbrev pub invariant-loop-cell : goal.invariant-loop-cell
invariant-loop-cell l = l.units.items ≡ map (λ cell. unit_of (value_of cell)) (take l.cell-index l.cells)
