-- Sorts of slots, as vx_java has them for values (JVMS 2.11.1), and the slot on top of operands.
use Rattle.std.specs.Prelude.{Bool, List, None, Option, Some, [], true, false, ◌∷◌}
use Rattle.vx_value.specs.declared.slot.Slot.{Slot}
use Rattle.vx_value.specs.Arithmetic.{narrow_of}
use Rattle.vx_value.specs.declared.operation.Narrow.{Narrow}
use Rattle.vx_value.specs.declared.slot.Slot.TheVariants.{Int, Long, Null, Ref, Top}
use Rattle.vx_java.specs.declared.operation.Sort.{Sort}
use Rattle.vx_java.specs.declared.operation.Sort.TheVariants.{Int as IntSort, Long as LongSort, Reference}

-- a slot holds a value of the sort
abbrev pub slot_is_of : Sort → Slot → Bool
slot_is_of IntSort (Int n) = true
slot_is_of LongSort (Long n) = true
slot_is_of Reference Null = true
slot_is_of Reference (Ref r) = true
slot_is_of _ _ = false

-- of the sort of a type, where it has one
abbrev pub slot_fits : Option Sort → Slot → Bool
slot_fits None slot = false
slot_fits (Some sort) slot = slot_is_of sort slot

-- the slot of a store
abbrev pub narrowed_slot : Option Narrow → Slot → Slot
narrowed_slot (Some narrow) (Int n) = Int (narrow_of narrow n)
narrowed_slot _ slot = slot

abbrev pub top_of : List Slot → Slot
top_of [] = Top
top_of (slot ∷ slots) = slot

-- it fits
abbrev pub top_fits : Option Sort → List Slot → Bool
top_fits sort [] = false
top_fits sort (slot ∷ slots) = slot_fits sort slot
