-- The objects of an exception that is made, the string of its message before it, and what the heap has with them (JVMS 2.10).
use Rattle.std.specs.Prelude.{◌≡◌, ◌++◌, ◌+◌, ◌∷◌, [], ℕ, Bool, true, List, None, Option, Some, length}
use Rattle.vx_heap.specs.Changing.{IsChangedIn, with_object}
use Rattle.vx_heap.specs.Heap.{Globals, HeapView, IsHeap, is_held, name_at, objects_at, value_of}
use Rattle.vx_cond.specs.Cond.{Conditional}
use Rattle.vx_cond.specs.Slots.{slot_at}
use Rattle.vx_java.specs.FirstObjects.{string_object}
use Rattle.vx_java.specs.Machine.{Null, Object, Ref, Value}
use Rattle.vx_java.specs.Throwing.{throwable}
use Rattle.vx_link.specs.declared.program.Program.{Program}
use Rattle.vx_space.specs.Sets.{Sets}
use Rattle.vx_value.specs.declared.slot.Slot.{Slot}
use Rattle.vx_value.specs.declared.slot.Slot.TheVariants as slot

-- ---- one configuration

-- the string of a message, if there is one
abbrev pub message_objects : Program → Option (List ℕ) → List Object
message_objects p None = []
message_objects p (Some units) = string_object p units ∷ []

-- its value, where so many objects stood before
abbrev pub message_value : (next : ℕ) → Option (List ℕ) → Value
message_value next None = Null
message_value next (Some units) = Ref next

-- objects behind those that stood there
abbrev pub with_more : List Object → Globals → Globals
with_more objects g = record g { objects = g.objects ++ objects }

-- the objects of an exception without a cause
abbrev pub raised_objects : Program → (class : ℕ) → Option (List ℕ) → (next : ℕ) → List Object
raised_objects p class text next = message_objects p text ++ throwable p class (message_value next text) Null ∷ []

abbrev pub with_raised : Program → (class : ℕ) → Option (List ℕ) → Globals → Globals
with_raised p class text g = with_more (raised_objects p class text (length g.objects)) g

-- ---- all configurations of a path

-- a slot is the message, whose string stands behind what stood there
pub record IsMessageMade {S I : Type 0} (p : Program) (sets : Sets I) (before : HeapView S I) (path : I) (text : Option (List ℕ)) (after : HeapView S I) (slot : Slot) : Type 0 where
  pub changed : IsChangedIn sets sets before after (sets.test path) (λ _. with_more (message_objects p text))
  pub held : (c : List Bool) → sets.test path c ≡ true → is_held sets after c slot ≡ true
  pub value : (c : List Bool) → sets.test path c ≡ true → value_of sets after c slot ≡ message_value (length (objects_at sets before c)) text

-- the same over any space
abbrev pub MakesMessage : {S I : Type 0} → Program → (before : HeapView S I) → (path : I) → Option (List ℕ) → (after : HeapView S I) → Slot → Type 0
MakesMessage {I = I} p before path text after slot =
    (sets : Sets I) → IsHeap sets before → sets.is_known path ≡ true → IsMessageMade p sets before path text after slot

-- at each configuration of a path this object stands behind what stood there
pub record IsMadeIn {S I : Type 0} (old new : Sets I) (before : HeapView S I) (path : I) (object : List Bool → Object) (after : HeapView S I) (reference : ℕ) : Type 0 where
  pub changed : IsChangedIn old new before after (old.test path) (λ c. with_object (object c))
  pub held : (c : List Bool) → old.test path c ≡ true → is_held new after c (slot.Ref reference) ≡ true
  pub name : (c : List Bool) → old.test path c ≡ true → name_at new after.objects c reference ≡ length (objects_at old before c)

-- the throwable of a class with a message and a cause
abbrev pub IsThrowableMade : {S I : Type 0} → Program → (old new : Sets I) → (before : HeapView S I) → (path : I) → (class : ℕ) → (message : Slot) → (cause : Conditional Slot S I) → (after : HeapView S I) → (reference : ℕ) → Type 0
IsThrowableMade p old new before path class message cause after reference =
    IsMadeIn old new before path (λ c. throwable p class (value_of old before c message) (value_of old before c (slot_at old cause c))) after reference

-- an exception of a class stands behind what stood there and its message's string
pub record IsExceptionMade {S I : Type 0} (p : Program) (old new : Sets I) (before : HeapView S I) (path : I) (class : ℕ) (text : Option (List ℕ)) (after : HeapView S I) (object : ℕ) : Type 0 where
  pub changed : IsChangedIn old new before after (old.test path) (λ _. with_raised p class text)
  pub held : (c : List Bool) → old.test path c ≡ true → is_held new after c (slot.Ref object) ≡ true
  pub name : (c : List Bool) → old.test path c ≡ true → name_at new after.objects c object ≡ length (objects_at old before c) + length (message_objects p text)
