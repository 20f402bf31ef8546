-- How many words slots take on the operand stack (JVMS 2.6.2).
use Rattle.std.specs.Prelude.{ℕ, ◌+◌, List, [], ◌∷◌}
use Rattle.vx_value.specs.declared.slot.Slot.{Slot}
use Rattle.vx_value.specs.declared.slot.Slot.TheVariants.{Long}

-- a long takes two
abbrev pub slot_width : Slot → ℕ
slot_width (Long n) = 2
slot_width _ = 1

abbrev pub slots_size : List Slot → ℕ
slots_size [] = 0
slots_size (slot ∷ slots) = slot_width slot + slots_size slots
