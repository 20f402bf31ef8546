-- The sort of a slot is that of the value that it has at a configuration.
use Rattle.std.proofs.Common.{◌≡◌, Bool, List, refl}
use Rattle.std.specs.Prelude.{None, Option, Some}
use Rattle.vx_value.specs.declared.operation.Narrow.{Narrow}
use Rattle.vx_value.specs.declared.slot.Slot.{Slot}
use Rattle.vx_value.specs.declared.slot.Slot.TheVariants.{Top, Int, Long, Null, Ref, Text}
use Rattle.vx_space.specs.Sets.{Sets}
use Rattle.vx_heap.specs.Heap.{HeapView, value_of}
use Rattle.vx_java.specs.Checks.{is_of, is_of_sort}
use Rattle.vx_java.specs.FirstObjects.{narrowed_value_to}
use Rattle.vx_java.specs.declared.operation.Sort.{Sort}
use Rattle.vx_java.specs.declared.operation.Sort.TheVariants.{Int as IntSort, Long as LongSort, Reference}
use Rattle.vx_families.specs.Sorts.{narrowed_slot, slot_fits, slot_is_of}

pub same_sort : {S I : Type 0} (sets : Sets I) (heap : HeapView S I) (c : List Bool) (sort : Sort) (slot : Slot) → is_of sort (value_of sets heap c slot) ≡ slot_is_of sort slot
same_sort sets heap c IntSort Top = refl
same_sort sets heap c IntSort (Int n) = refl
same_sort sets heap c IntSort (Long n) = refl
same_sort sets heap c IntSort Null = refl
same_sort sets heap c IntSort (Ref i) = refl
same_sort sets heap c IntSort (Text n) = refl
same_sort sets heap c LongSort Top = refl
same_sort sets heap c LongSort (Int n) = refl
same_sort sets heap c LongSort (Long n) = refl
same_sort sets heap c LongSort Null = refl
same_sort sets heap c LongSort (Ref i) = refl
same_sort sets heap c LongSort (Text n) = refl
same_sort sets heap c Reference Top = refl
same_sort sets heap c Reference (Int n) = refl
same_sort sets heap c Reference (Long n) = refl
same_sort sets heap c Reference Null = refl
same_sort sets heap c Reference (Ref i) = refl
same_sort sets heap c Reference (Text n) = refl

-- and so are whether it fits a type, and what a store of a type keeps of it
pub fits_plain : {S I : Type 0} (sets : Sets I) (heap : HeapView S I) (c : List Bool) (s : Option Sort) (slot : Slot) → is_of_sort s (value_of sets heap c slot) ≡ slot_fits s slot
fits_plain sets heap c None slot = refl
fits_plain sets heap c (Some s) slot = same_sort sets heap c s slot

pub narrowed_plain : {S I : Type 0} (sets : Sets I) (heap : HeapView S I) (c : List Bool) (to : Option Narrow) (slot : Slot) → value_of sets heap c (narrowed_slot to slot) ≡ narrowed_value_to to (value_of sets heap c slot)
narrowed_plain sets heap c None slot = refl
narrowed_plain sets heap c (Some to) Top = refl
narrowed_plain sets heap c (Some to) (Int n) = refl
narrowed_plain sets heap c (Some to) (Long n) = refl
narrowed_plain sets heap c (Some to) Null = refl
narrowed_plain sets heap c (Some to) (Ref r) = refl
narrowed_plain sets heap c (Some to) (Text n) = refl
