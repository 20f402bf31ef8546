-- Units of texts as elements of arrays.
use Rattle.std.specs.Prelude.{ℕ, pos}
use Rattle.vx_value.specs.declared.slot.Slot.{Slot}
use Rattle.vx_value.specs.declared.slot.Slot.TheVariants.{Int}

abbrev pub char_slot : ℕ → Slot
char_slot unit = Int (pos unit)
