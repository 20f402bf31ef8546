-- Where instructions of arrays find an element at one configuration, and what they make of it (JVMS 6.5).
use Rattle.std.specs.Prelude.{ℕ, ℤ, ◌+◌, Bool, true, List, None, Option, Some, drop, if◌then◌else◌, min, nat_le, pos}
use Rattle.vx_cells.specs.Classes.{has_class}
use Rattle.vx_cells.specs.Places.{place_if}
use Rattle.vx_cells.specs.declared.place.Place.{Place}
use Rattle.vx_cells.specs.declared.place.Place.TheVariants as place
use Rattle.vx_families.specs.Sorts.{slot_is_of}
use Rattle.vx_group_states.specs.Widths.{slots_size}
use Rattle.vx_group_states.specs.declared.answer.Answer.{Answer}
use Rattle.vx_group_states.specs.declared.answer.Answer.TheVariants as answer
use Rattle.vx_group_states.specs.declared.site.Site.{Site}
use Rattle.vx_heap.specs.Heap.{HeapView, class_at_slot, object_in}
use Rattle.vx_java.specs.Arrays.{element_sort, is_array_of}
use Rattle.vx_java.specs.Checks.{is_within, width_of_sort}
use Rattle.vx_java.specs.Ids.{as_class}
use Rattle.vx_java.specs.Machine.{length_bound}
use Rattle.vx_java.specs.declared.operation.Element.{Element}
use Rattle.vx_java.specs.declared.operation.Element.TheVariants.{Bytes, Chars, References, Shorts}
use Rattle.vx_link.specs.Assignability.{assignable}
use Rattle.vx_link.specs.ClassNames.{component_of, core_class, is_array}
use Rattle.vx_link.specs.declared.program.Program.{Program}
use Rattle.vx_list.specs.Places.{item_or}
use Rattle.vx_value.specs.Arithmetic.{narrow_of, natural}
use Rattle.vx_value.specs.declared.ids.ClassId.{ClassId}
use Rattle.vx_value.specs.declared.operation.Narrow.TheVariants.{Byte, Char, Short}
use Rattle.vx_value.specs.declared.slot.Slot.{Slot}
use Rattle.vx_value.specs.declared.slot.Slot.TheVariants.{Int, Null, Ref, Top}

-- a slot is an array that the instruction works on
abbrev pub is_array_at : {S I : Type 0} → Program → HeapView S I → Element → Slot → Bool
is_array_at p heap e slot = has_class (is_array_of p e) (class_at_slot heap slot)

-- the element of an index, of an array that the instruction works on
abbrev pub place_within : {S I : Type 0} → HeapView S I → ℕ → ℤ → Place
place_within heap r i = if is_within i (object_in heap r).length then place.At r (natural i) else place.Outside i

abbrev pub element_place : {S I : Type 0} → Program → HeapView S I → Element → (index array : Slot) → Place
element_place p heap e (Int i) Null = place.Null
element_place p heap e (Int i) (Ref r) = if is_array_at p heap e (Ref r) then place_within heap r i else place.Illegal
element_place p heap e _ _ = place.Illegal

-- the element that a load reads, where its value has room on the operands that are left
abbrev pub loaded_place : {S I : Type 0} → Site → HeapView S I → Element → List Slot → Place
loaded_place site heap e slots =
    place_if (element_place site.program.now heap e (item_or slots 0 Top) (item_or slots 1 Top))
    (nat_le (width_of_sort (element_sort e) + slots_size (drop 2 slots)) site.code.now.max_stack)

-- ---- stores

-- an array may have a value as an element
abbrev pub may_be : Program → (value array : Option ClassId) → Bool
may_be p (Some value) (Some array) = assignable p value.0 (component_of p array.0)
may_be p _ _ = true

abbrev pub may_have : {S I : Type 0} → Program → HeapView S I → Element → (array : ℕ) → Slot → Bool
may_have p heap References r v = may_be p (class_at_slot heap v) (class_at_slot heap (Ref r))
may_have p heap _ r v = true

-- a cell for a value that the array may have
abbrev pub place_for : {S I : Type 0} → Program → HeapView S I → Element → Slot → Place → Place
place_for p heap e v (place.At r i) = if may_have p heap e r v then place.At r i else place.Refused
place_for p heap e v other = other

abbrev pub stored_place : {S I : Type 0} → Program → HeapView S I → Element → Slot → Place → Place
stored_place p heap e v found = if slot_is_of (element_sort e) v then place_for p heap e v found else place.Illegal

-- the element that a store writes, by its operands
abbrev pub written_place : {S I : Type 0} → Program → HeapView S I → Element → List Slot → Place
written_place p heap e slots = stored_place p heap e (item_or slots 0 Top) (element_place p heap e (item_or slots 1 Top) (item_or slots 2 Top))

-- what a store keeps of a value
abbrev pub kept : Element → Slot → Slot
kept Bytes (Int n) = Int (narrow_of Byte n)
kept Chars (Int n) = Int (narrow_of Char n)
kept Shorts (Int n) = Int (narrow_of Short n)
kept _ v = v

-- ---- lengths

-- as a value; no array is longer than the bound
abbrev pub length_value : {S I : Type 0} → HeapView S I → ℕ → Slot
length_value heap r = Int (pos (min (object_in heap r).length length_bound))

abbrev pub measured : {S I : Type 0} → Program → HeapView S I → (null : ClassId) → Slot → (fits : Bool) → Answer
measured p heap null Null true = answer.Raise null None
measured p heap null (Ref r) true = if has_class (is_array p) (class_at_slot heap (Ref r)) then answer.Give (length_value heap r) else answer.Illegal
measured p heap null _ _ = answer.Illegal

-- the length of the array on top, where it has room on the operands that are left
abbrev pub measured_top : {S I : Type 0} → Site → HeapView S I → List Slot → Answer
measured_top site heap slots =
    measured site.program.now heap (as_class (core_class site.program.now "java/lang/NullPointerException")) (item_or slots 0 Top)
    (nat_le (1 + slots_size (drop 1 slots)) site.code.now.max_stack)
