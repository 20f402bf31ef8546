-- Slots with which fields begin, as values of one configuration.
use Rattle.std.specs.Prelude.{Bool, List, None, Option, Some, [], false, map, true, ◌∷◌}
use Rattle.vx_initial_heap.specs.First.{empty_text, value_in}
use Rattle.vx_java.specs.Machine as machine
use Rattle.vx_plain.specs.declared.value.Value.{Value}
use Rattle.vx_plain.specs.declared.value.Value.TheVariants as plain
use Rattle.vx_value.specs.declared.slot.Slot.{Slot}
use Rattle.vx_value.specs.declared.slot.Slot.TheVariants.{Top, Int, Long, Null, Ref, Text}

-- the value of a slot that names no text
abbrev pub plain_of : Slot → Option Value
plain_of Top = Some plain.Top
plain_of (Int n) = Some (plain.Int n)
plain_of (Long n) = Some (plain.Long n)
plain_of Null = Some plain.Null
plain_of (Ref object) = Some (plain.Ref object)
plain_of (Text n) = None

-- the values of slots, where there is just the empty text
abbrev pub values_in : List Slot → List machine.Value
values_in slots = map (value_in empty_text) slots

-- the slot of a text alone
abbrev pub is_text : List Slot → Bool
is_text (Text n ∷ []) = true
is_text _ = false
