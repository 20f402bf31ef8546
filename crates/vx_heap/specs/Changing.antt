-- Changes of the heap in a set of configurations, and nowhere else (own).
use Rattle.std.specs.Prelude.{◌≡◌, ◌++◌, ◌∷◌, [], ℕ, Bool, true, false, List, Some, if◌then◌else◌, length, replicate, slice_get, slice_set}
use Rattle.vx_cond.specs.Cond.{Conditional}
use Rattle.vx_cond.specs.Slots.{slot_at}
use Rattle.vx_java.specs.Machine.{Object, Value, no_object}
use Rattle.vx_java.specs.Machine.{Text as TextValue}
use Rattle.vx_link.specs.declared.program.Program.{Program}
use Rattle.vx_list.specs.Places.{item_or}
use Rattle.vx_space.specs.Sets.{Sets}
use Rattle.vx_value.specs.declared.slot.Slot.{Slot}
use Rattle.vx_value.specs.declared.slot.Slot.TheVariants.{Ref}
use Rattle.vx_heap.specs.declared.object.HeapObject.{HeapObject}
use Rattle.vx_heap.specs.Heap.{Globals, HeapView, IsHeap, IsHeapFor, globals_at, is_held, name_at, objects_at, value_of}

-- the later heap has the objects and the texts of the earlier one under their numbers
pub record Grows {S I : Type 0} (before after : HeapView S I) : Type 0 where
  pub allowed : after.allowed ≡ before.allowed
  pub objects : (i : ℕ) (o : HeapObject S I) → slice_get before.objects i ≡ Some o → (later : HeapObject S I) × (slice_get after.objects i ≡ Some later) × (later.presence ≡ o.presence)
  pub texts : (n : ℕ) (text : List ℕ) → slice_get before.texts n ≡ Some text → slice_get after.texts n ≡ Some text

-- At each configuration of a set stands what the change makes of what stood there, and at each other one what stood there. Objects and texts keep their numbers, so what was held before still is.
pub record IsChangedIn {S I : Type 0} (old new : Sets I) (before after : HeapView S I) (set : List Bool → Bool) (change : List Bool → Globals → Globals) : Type 0 where
  pub is_heap : IsHeap new after
  pub grows : Grows before after
  pub keeps : (p : Program) → IsHeapFor p before → IsHeapFor p after
  pub inside : (c : List Bool) → set c ≡ true → globals_at new after c ≡ change c (globals_at old before c)
  pub outside : (c : List Bool) → set c ≡ false → globals_at new after c ≡ globals_at old before c

-- the change where the set holds, and nothing elsewhere
abbrev pub changed_in : (set : List Bool → Bool) → (change : List Bool → Globals → Globals) → List Bool → Globals → Globals
changed_in set change c g = if set c then change c g else g

-- ---- cells

-- another value in a cell of an object
abbrev pub with_cell_of : (object cell : ℕ) → Value → Globals → Globals
with_cell_of r i v g =
    let object = item_or g.objects r no_object in
    record g { objects = slice_set g.objects r (record object { cells = slice_set object.cells i v }) }

-- a conditional value names what is there
pub record IsValueHeld {S I : Type 0} (sets : Sets I) (heap : HeapView S I) (value : Conditional Slot S I) : Type 0 where
  pub held : (c : List Bool) → sets.test value.scope c ≡ true → is_held sets heap c (slot_at sets value c) ≡ true

-- in the scope of a value the cell of an object has it, and nothing else changed
abbrev pub IsCellWritten : {S I : Type 0} → (old new : Sets I) → (before : HeapView S I) → (reference cell : ℕ) → Conditional Slot S I → (after : HeapView S I) → Type 0
IsCellWritten old new before reference cell value after =
    IsChangedIn old new before after (old.test value.scope) (λ c. with_cell_of (name_at old before.objects c reference) cell (value_of old before c (slot_at old value c)))

-- ---- new objects

abbrev pub with_object : Object → Globals → Globals
with_object object g = record g { objects = g.objects ++ object ∷ [] }

-- In the configurations of a path an object stands behind those that stood there, this one of the configuration, and nothing else changed.
pub record IsMadeAt {S I : Type 0} (old new : Sets I) (before : HeapView S I) (path : I) (object : List Bool → Object) (after : HeapView S I) (reference : ℕ) : Type 0 where
  pub changed : IsChangedIn old new before after (old.test path) (λ c. with_object (object c))
  pub reference_is : reference ≡ length before.objects
  pub held : (c : List Bool) → old.test path c ≡ true → is_held new after c (Ref reference) ≡ true

-- the same object in all of them
abbrev pub IsMade : {S I : Type 0} → (sets : Sets I) → (before : HeapView S I) → (path : I) → Object → (after : HeapView S I) → (reference : ℕ) → Type 0
IsMade sets before path object after reference = IsMadeAt sets sets before path (λ _. object) after reference

-- the object that a reference names at a configuration
abbrev pub named_object : {S I : Type 0} → Sets I → HeapView S I → (reference : ℕ) → List Bool → Object
named_object sets heap reference c = item_or (objects_at sets heap c) (name_at sets heap.objects c reference) no_object

-- the same over any space
abbrev pub MakesObject : {S I : Type 0} → (before : HeapView S I) → (path : I) → Object → (after : HeapView S I) → (reference : ℕ) → Type 0
MakesObject {I = I} before path object after reference = (sets : Sets I) → IsHeap sets before → sets.is_known path ≡ true → IsMade sets before path object after reference

-- an array whose elements are one value, and an object with a text
abbrev pub filled : (class size : ℕ) → Value → Object
filled class size element = record { class = class; size = size; cells = replicate size element }

abbrev pub of_text : (class : ℕ) → (units : List ℕ) → Object
of_text class units = record { class = class; size = 0; cells = TextValue units ∷ [] }

-- an object by its cells
abbrev pub of_cells : (class size : ℕ) → List Value → Object
of_cells class size cells = record { class = class; size = size; cells = cells }
