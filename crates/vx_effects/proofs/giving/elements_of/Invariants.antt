use Rattle.std.proofs.Common.{◌≡◌, map, take}
use Rattle.vx_effects.specs.Elements.{char_slot}
use Rattle.vx_effects.proofs.giving.elements_of.Given as goal

abbrev pub invariant-loop-unit : goal.invariant-loop-unit
invariant-loop-unit l = l.slots.items ≡ map char_slot (take l.unit-index l.units)
