-- What instructions of objects make of slots at one configuration (JVMS 6.5).
use Rattle.std.specs.Prelude.{ℕ, ℤ, Bool, true, false, List, [], ◌∷◌, None, Option, if◌then◌else◌, ◌==◌, not, pos}
use Rattle.vx_arith.specs.Numbers.{branch_by}
use Rattle.vx_arith.specs.declared.spot.Spot.{Spot}
use Rattle.vx_cells.specs.Classes.{has_class}
use Rattle.vx_cells.specs.Places.{place_if}
use Rattle.vx_cells.specs.declared.place.Place.{Place}
use Rattle.vx_cells.specs.declared.place.Place.TheVariants as place
use Rattle.vx_families.specs.Sorts.{slot_fits}
use Rattle.vx_group_states.specs.declared.answer.Answer.{Answer}
use Rattle.vx_group_states.specs.declared.answer.Answer.TheVariants as answer
use Rattle.vx_heap.specs.Heap.{HeapView, class_at_slot}
use Rattle.vx_java.specs.Machine.{Here, Outcome, Value, go, illegal, push, raise, unsupported, when}
use Rattle.vx_java.specs.Machine.{Null as NullValue}
use Rattle.vx_java.specs.Objects.{against, int_of_bool}
use Rattle.vx_java.specs.Operation.{class_word}
use Rattle.vx_java.specs.declared.operation.Sort.{Sort}
use Rattle.vx_link.specs.Assignability.{assignable}
use Rattle.vx_link.specs.Names.{class_name}
use Rattle.vx_link.specs.declared.program.Program.{Program}
use Rattle.vx_value.specs.declared.ids.ClassId.{ClassId}
use Rattle.vx_value.specs.declared.slot.Slot.{Slot}
use Rattle.vx_value.specs.declared.slot.Slot.TheVariants.{Int, Null, Ref}

-- ---- references compared

abbrev pub same_slots : Slot → Slot → Bool
same_slots Null Null = true
same_slots (Ref a) (Ref b) = a == b
same_slots _ _ = false

abbrev pub is_reference : Slot → Bool
is_reference Null = true
is_reference (Ref a) = true
is_reference _ = false

abbrev pub compared : Spot → (wanted : Bool) → (offset : ℤ) → (upper lower : Slot) → Answer
compared spot wanted offset upper lower =
    if is_reference upper then
    (if is_reference lower then branch_by spot (if wanted then same_slots lower upper else not (same_slots lower upper)) offset else answer.Illegal)
    else answer.Illegal

-- ---- monitors

abbrev pub monitored : (null : ClassId) → Slot → Answer
monitored null Null = answer.Raise null None
monitored null (Ref r) = answer.Pass
monitored null _ = answer.Illegal

-- ---- casts

-- a slot is an object of a class that may stand where one is wanted
abbrev pub is_instance : {S I : Type 0} → Program → HeapView S I → (wanted : ℕ) → Slot → Bool
is_instance p heap wanted slot = has_class (λ class. assignable p class wanted) (class_at_slot heap slot)

abbrev pub cast : {S I : Type 0} → Program → HeapView S I → (wanted : ℕ) → (refusal : ClassId) → Slot → Answer
cast p heap wanted refusal Null = answer.Give Null
cast p heap wanted refusal (Ref r) = if is_instance p heap wanted (Ref r) then answer.Give (Ref r) else answer.Raise refusal None
cast p heap wanted refusal _ = answer.Illegal

abbrev pub int_of : Bool → Slot
int_of b = if b then Int (pos 1) else Int (pos 0)

abbrev pub told : {S I : Type 0} → Program → HeapView S I → (wanted : ℕ) → Slot → Answer
told p heap wanted Null = answer.Push (int_of false)
told p heap wanted (Ref r) = answer.Push (int_of (is_instance p heap wanted (Ref r)))
told p heap wanted _ = answer.Illegal

abbrev pub is_null : Slot → Bool
is_null Null = true
is_null _ = false

-- an answer that names no object and no text
abbrev pub names_nothing : Answer → Bool
names_nothing (answer.Give Null) = true
names_nothing (answer.Push (Int n)) = true
names_nothing _ = false

-- checkcast of a class that is there, by its operands
abbrev pub cast_top : Here → (wanted : ℕ) → List Value → Outcome
cast_top h wanted [] = illegal h
cast_top h wanted (NullValue ∷ rest) = go h (NullValue ∷ rest)
cast_top h wanted (v ∷ rest) = against h v wanted (λ fits. when fits (go h (v ∷ rest)) (raise h "java/lang/ClassCastException"))

-- instanceof
abbrev pub told_top : Here → (wanted : ℕ) → List Value → Outcome
told_top h wanted [] = illegal h
told_top h wanted (NullValue ∷ rest) = push h (int_of_bool false) rest
told_top h wanted (v ∷ rest) = against h v wanted (λ fits. push h (int_of_bool fits) rest)

-- the class that an entry names isn't there: null passes, and any other operand ends the run
abbrev pub without_class : Here → ℕ → (passes : Outcome) → List Value → Outcome
without_class h i passes (NullValue ∷ rest) = passes
without_class h i passes _ = unsupported h class_word (class_name h.pool i)

-- ---- fields

-- where a field of an object of a class is
abbrev pub field_place : {S I : Type 0} → Program → HeapView S I → (named cell : ℕ) → Slot → Place
field_place p heap named cell Null = place.Null
field_place p heap named cell (Ref r) = if is_instance p heap named (Ref r) then place.At r cell else place.Illegal
field_place p heap named cell _ = place.Illegal

-- if the value fits in the field
abbrev pub stored_place : {S I : Type 0} → Program → HeapView S I → (named cell : ℕ) → Option Sort → (value object : Slot) → Place
stored_place p heap named cell sort value object = place_if (field_place p heap named cell object) (slot_fits sort value)
