use Rattle.std.proofs.Common.{◌≡◌, map, take}
use Rattle.vx_plain_strings.specs.Texts.{char_value}
use Rattle.vx_plain_strings.proofs.texts.elements_of.Given as goal

abbrev pub invariant-loop-unit : goal.invariant-loop-unit
invariant-loop-unit l = l.cells.items ≡ map char_value (take l.unit-index l.units)
