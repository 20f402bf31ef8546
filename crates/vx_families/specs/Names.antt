-- Laws of names: which plain references shared ones are at a configuration, and that they stay where the heap grows (own).
use Rattle.std.specs.Prelude.{◌≡◌, ◌↔◌, ℕ, ◌<◌, Bool, true, List, length}
use Rattle.vx_value.specs.declared.slot.Slot.{Slot}
use Rattle.vx_value.specs.declared.slot.Slot.TheVariants.{Ref}
use Rattle.vx_space.specs.Sets.{Sets, Extends}
use Rattle.vx_heap.specs.Heap.{HeapView, IsHeap, is_held, name_at, objects_at, value_of}
use Rattle.vx_group_states.specs.Stands.{Grows}

-- a slot that names what is there still does so, and has the same plain value, over a later space and a heap that grew
abbrev pub ValuesStay : (S I : Type 0) → Type 0
ValuesStay S I =
    (old new : Sets I) (before after : HeapView S I) → Extends old new → IsHeap old before → Grows before after
    → (c : List Bool) (slot : Slot) → is_held old before c slot ≡ true
    → (is_held new after c slot ≡ true) × (value_of new after c slot ≡ value_of old before c slot)

-- the first object behind those of an earlier heap is named by the number of objects that stood there
abbrev pub NewNameIsNext : (S I : Type 0) → Type 0
NewNameIsNext S I =
    (old new : Sets I) (before after : HeapView S I) → Extends old new → IsHeap old before → Grows before after
    → (c : List Bool) → name_at new after.objects c (length before.objects) ≡ length (objects_at old before c)

-- references to what is there are equal exactly where their names are
abbrev pub NamesTell : (S I : Type 0) → Type 0
NamesTell S I =
    (sets : Sets I) (heap : HeapView S I) (c : List Bool) (i j : ℕ)
    → is_held sets heap c (Ref i) ≡ true → is_held sets heap c (Ref j) ≡ true
    → (i ≡ j) ↔ (name_at sets heap.objects c i ≡ name_at sets heap.objects c j)

-- and the name of a later one is greater
abbrev pub NamesGrow : (S I : Type 0) → Type 0
NamesGrow S I =
    (sets : Sets I) (heap : HeapView S I) (c : List Bool) (i j : ℕ)
    → is_held sets heap c (Ref i) ≡ true → i < j → name_at sets heap.objects c i < name_at sets heap.objects c j
