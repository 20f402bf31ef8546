-- What is thrown goes down the frames of a group: the handlers of the frame on top take some of it, and the rest goes on in the caller (JVMS 2.10).
use Rattle.std.specs.Prelude.{◌≡◌, ◌&&◌, ℕ, Bool, true, false, List, None, Option, Some, is_none, is_some, option_and_then, option_map, suc, unwrap_or}
use Rattle.std.specs.List.{list_all}
use Rattle.vx_cond.specs.Cond.{Conditional, IsCond}
use Rattle.vx_cond.specs.Slots.{slot_at}
use Rattle.vx_frame.specs.Frame.{part_of}
use Rattle.vx_group.specs.declared.callers.Caller.{Caller}
use Rattle.vx_group.specs.Group.{IsPartOf, depth_of, path_of}
use Rattle.vx_group_states.specs.Stands.{Continues, Grows, IsThrown, StandsIn, object_named, state_at}
use Rattle.vx_heap.specs.Heap.{HeapView, IsHeap, IsHeapFor, class_at_slot, globals_at}
use Rattle.vx_java.specs.Machine.{State}
use Rattle.vx_java.specs.Machine.{Outcome as PlainOutcome, Throw}
use Rattle.vx_java.specs.Selection.{handler_for}
use Rattle.vx_java.specs.Throwing.{handler_of, next_after_throw, next_in_handler, uncaught}
use Rattle.vx_families.specs.Bounds.{IsBounded}
use Rattle.vx_link.specs.declared.program.Program.{Program}
use Rattle.vx_outcome.specs.declared.outcome.Outcome.{Outcome}
use Rattle.vx_ready.specs.Initialising.{GivesWithin}
use Rattle.vx_space.specs.Sets.{Sets}
use Rattle.vx_standing.specs.Attempted.{is_placed, outcome_of}
use Rattle.vx_value.specs.Slot.{slot_cmp}
use Rattle.vx_value.specs.declared.key.Kind.{Kind}
use Rattle.vx_value.specs.declared.key.Kind.TheVariants.{Wait}
use Rattle.vx_value.specs.declared.key.KeyPart.{KeyPart}
use Rattle.vx_value.specs.declared.slot.Slot.{Slot}
use Rattle.vx_throw.specs.declared.handling.Flight.{Flight}

-- ---- one configuration

-- a frame that waits handles nothing
abbrev pub unless_waiting : Kind → Option ℕ → Option ℕ
unless_waiting Wait handler = None
unless_waiting _ handler = handler

-- the handler of a frame for the object that a slot names, by the object's class
abbrev pub handler_at : {S I : Type 0} → Program → HeapView S I → KeyPart → Slot → Option ℕ
handler_at p heap part slot =
    unless_waiting part.kind (option_and_then (λ class. handler_for p part.method.0 part.position class.0) (class_at_slot heap slot))

-- what comes where a handler takes the object
abbrev pub landing : State → (object : ℕ) → Option ℕ → PlainOutcome
landing s r None = Throw r s
landing s r (Some handler) = outcome_of (next_in_handler s r handler)

-- the number of the class of the object that a slot names
abbrev pub class_number : {S I : Type 0} → HeapView S I → Slot → ℕ
class_number heap slot = unwrap_or (option_map (λ class. class.0) (class_at_slot heap slot)) 0

-- ---- all configurations of a path

-- the object that is thrown at a configuration, by its name
abbrev pub thrown_at : {S I : Type 0} → Sets I → HeapView S I → Conditional Slot S I → List Bool → ℕ
thrown_at sets heap objects c = object_named sets heap c (slot_at sets objects c)

-- what comes of throwing it
abbrev pub thrown_from : {S I : Type 0} → Program → Sets I → Conditional Slot S I → HeapView S I → List Bool → State → PlainOutcome
thrown_from p sets objects heap c s = outcome_of (next_after_throw p s (thrown_at sets heap objects c))

-- what comes of it in the frame on top, by the handler at each configuration
abbrev pub landing_from : {S I : Type 0} → Sets I → Conditional Slot S I → (handler : List Bool → Option ℕ) → HeapView S I → List Bool → State → PlainOutcome
landing_from sets objects handler heap c s = landing s (thrown_at sets heap objects c) (handler c)

-- no frame takes it
abbrev pub uncaught_from : {S I : Type 0} → Program → Sets I → Conditional Slot S I → HeapView S I → List Bool → State → PlainOutcome
uncaught_from p sets objects heap c s = outcome_of (uncaught p s (thrown_at sets heap objects c))

-- the handler of the frame on top at a configuration
abbrev pub handler_in : {S I : Type 0} → Program → Sets I → HeapView S I → Flight S I → List Bool → Option ℕ
handler_in p sets heap flight c = handler_at p heap (part_of flight.group.top) (slot_at sets flight.objects c)

-- a group throws objects over this heap and this tree
pub record IsFlight {S I : Type 0} (p : Program) (sets : Sets I) (heap : HeapView S I) (tree : List (Option (Caller S I))) (flight : Flight S I) : Type 0 where
  pub bounded : IsBounded p
  pub is_heap : IsHeap sets heap
  pub is_for : IsHeapFor p heap
  pub stands : StandsIn p sets heap tree flight.group
  pub thrown : IsThrown sets heap flight.group flight.objects

-- objects inside a path are those that there were
pub record AreInside {S I : Type 0} (old new : Sets I) (before after : Conditional Slot S I) (path : I) : Type 0 where
  pub is_cond : IsCond slot_cmp new after
  pub scope : after.scope ≡ path
  pub at : (c : List Bool) → new.test path c ≡ true → slot_at new after c ≡ slot_at old before c

-- The handlers of the frame on top took the objects of their classes: what they took goes on there, with the object alone on the operands and the locals as they were; what none took is left.
pub record IsHandled {S I : Type 0} (p : Program) (old new : Sets I) (heap : HeapView S I) (before after : Flight S I) (outcomes : List (Outcome S I)) : Type 0 where
  pub left : IsPartOf old new (λ c. old.test (path_of before.group) c && is_none (handler_in p old heap before c)) before.group after.group
  pub objects : AreInside old new before.objects after.objects (path_of after.group)
  pub landed : GivesWithin p (landing_from old before.objects (handler_in p old heap before)) (λ c. old.test (path_of before.group) c && is_some (handler_in p old heap before c)) old new before.group outcomes heap
  pub placed : list_all is_placed outcomes ≡ true

-- what comes of throwing, over this heap and this tree
abbrev pub thrown_here : {S I : Type 0} → Program → Sets I → HeapView S I → List (Option (Caller S I)) → Flight S I → List Bool → PlainOutcome
thrown_here p sets heap tree flight c = thrown_from p sets flight.objects heap c (state_at sets heap tree flight.group c)

-- the frame on top doesn't take what is thrown
abbrev pub NoneTakes : {S I : Type 0} → Program → Sets I → HeapView S I → List (Option (Caller S I)) → Flight S I → Type 0
NoneTakes p sets heap tree flight =
    (c : List Bool) → sets.test (path_of flight.group) c ≡ true
    → handler_of p (state_at sets heap tree flight.group c) flight.group.top.kind (thrown_at sets heap flight.objects c) ≡ None

-- What is thrown passed the frame on top: where that doesn't take it, what comes of throwing stays the same. Nothing else changed.
pub record IsPassed {S I : Type 0} (p : Program) (old new : Sets I) (before after : HeapView S I) (tree : List (Option (Caller S I))) (flight next : Flight S I) : Type 0 where
  pub is_flight : IsFlight p new after tree next
  pub grows : Grows before after
  pub continues : Continues p old new after tree flight.group next.group
  pub path : path_of next.group ≡ path_of flight.group
  pub depth : depth_of flight.group ≡ suc (depth_of next.group)
  pub comes : NoneTakes p old before tree flight → (c : List Bool) → old.test (path_of flight.group) c ≡ true → thrown_here p new after tree next c ≡ thrown_here p old before tree flight c
  pub outside : (c : List Bool) → old.test (path_of flight.group) c ≡ false → globals_at new after c ≡ globals_at old before c
