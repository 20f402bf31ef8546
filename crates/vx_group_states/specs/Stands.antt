-- What a shared state stands for at a configuration: the plain state of the ordinary machine there, and what its attempt comes to (own).
use Rattle.std.specs.Prelude.{◌≡◌, ℕ, ◌<◌, Bool, true, false, List, [], ◌∷◌, ◌&&◌, ◌==◌, length, map, option_map, slice_get, Option, Some, None, if◌then◌else◌}
use Rattle.std.specs.List.{list_all}
use Rattle.vx_value.specs.declared.slot.Slot.{Slot}
use Rattle.vx_value.specs.declared.slot.Slot.TheVariants as slot
use Rattle.vx_list.specs.Places.{item_or}
use Rattle.vx_space.specs.Sets.{Sets, IsKnown}
use Rattle.vx_value.specs.Slot.{slot_cmp}
use Rattle.vx_cond.specs.Cond.{Conditional, IsCond, IsInside}
use Rattle.vx_cond.specs.Slots.{slot_at}
use Rattle.vx_frame.specs.Frame.{PlainFrame, Shape, frame_at}
use Rattle.vx_group.specs.declared.callers.Caller.{Caller}
use Rattle.vx_group.specs.Callers.{Keeps, callers_of, frames_at}
use Rattle.vx_group.specs.Group.{GroupView, IsGroupIn, attempts_at, path_of, shapes_of, stack_of}
use Rattle.vx_heap.specs.Heap.{Globals, HeapView, IsHeap, are_held, globals_at, is_held, name_at, value_of}
pub use Rattle.vx_heap.specs.Changing.{Grows}
use Rattle.vx_outcome.specs.Outcome.{Divide, condition_of}
use Rattle.vx_outcome.specs.declared.outcome.Outcome.{Outcome}
use Rattle.vx_outcome.specs.declared.outcome.Outcome.TheVariants as shared
use Rattle.vx_java.specs.Initialisation.{max_locals}
use Rattle.vx_java.specs.Machine.{Frame, State}
use Rattle.vx_java.specs.Machine.{Outcome as PlainOutcome, Go, Raise, Throw, Begin, Native, Write, Ended}
use Rattle.vx_java.specs.Row.{row}
use Rattle.vx_link.specs.Parts.{method_at}
use Rattle.vx_link.specs.declared.program.Program.{Program}

-- ---- states

-- the plain frame, with the plain values of its slots
abbrev pub plain_frame : {S I : Type 0} → Sets I → HeapView S I → List Bool → PlainFrame → Frame
plain_frame sets heap c f =
    record {
      kind = f.kind;
      method = f.method;
      position = f.position;
      locals = map (value_of sets heap c) f.locals;
      operands = map (value_of sets heap c) f.operands;
    }

abbrev pub state_of : Globals → Frame → List Frame → State
state_of g top callers = record { heap = g.objects; statics = g.statics; inits = g.inits; top = top; callers = callers }

-- the callers of a group, the nearest first
abbrev pub callers_at : {S I : Type 0} → Sets I → HeapView S I → List (Option (Caller S I)) → GroupView S I → List Bool → List Frame
callers_at sets heap tree group c =
    map (plain_frame sets heap c) (frames_at sets (callers_of tree (length group.below) group.caller) c)

-- the plain state that stands at a configuration of a group's path
abbrev pub state_at : {S I : Type 0} → Sets I → HeapView S I → List (Option (Caller S I)) → GroupView S I → List Bool → State
state_at sets heap tree group c =
    state_of (globals_at sets heap c) (plain_frame sets heap c (frame_at sets group.top c)) (callers_at sets heap tree group c)

-- ---- validity

-- each slot of the frame names what is there
abbrev pub frame_held : {S I : Type 0} → Sets I → HeapView S I → List Bool → PlainFrame → Bool
frame_held sets heap c f = are_held sets heap c f.locals && are_held sets heap c f.operands

-- a frame has as many locals as its method asks for
abbrev pub is_shaped : Program → Shape → Bool
is_shaped p shape = shape.locals == max_locals (method_at p shape.part.method.0).code

-- a group of configurations that run, over this space, this heap and this tree
pub record StandsIn {S I : Type 0} (p : Program) (sets : Sets I) (heap : HeapView S I) (tree : List (Option (Caller S I))) (group : GroupView S I) : Type 0 where
  pub is_group : IsGroupIn sets tree group
  pub runs : IsInside sets (path_of group) heap.allowed
  pub held : (c : List Bool) → sets.test (path_of group) c ≡ true → list_all (frame_held sets heap c) (frames_at sets (stack_of tree group) c) ≡ true
  pub shaped : list_all (is_shaped p) (shapes_of tree group) ≡ true

-- ---- attempts

-- a message, by the number of its text
abbrev pub message_of : {S I : Type 0} → HeapView S I → Option ℕ → Option (List ℕ)
message_of heap message = option_map (λ n. item_or heap.texts n []) message

-- the object that a slot names
abbrev pub object_named : {S I : Type 0} → Sets I → HeapView S I → List Bool → Slot → ℕ
object_named sets heap c (slot.Ref i) = name_at sets heap.objects c i
object_named sets heap c _ = 0

-- what an outcome says of a configuration in its condition
abbrev pub outcome_at : {S I : Type 0} → Sets I → HeapView S I → List (Option (Caller S I)) → List Bool → Outcome S I → PlainOutcome
outcome_at sets heap tree c (shared.Go group) = Go (state_at sets heap tree group c)
outcome_at sets heap tree c (shared.Raise group class message) = Raise class.0 (message_of heap message) (state_at sets heap tree group c)
outcome_at sets heap tree c (shared.Throw group thrown) = Throw (object_named sets heap c (slot_at sets thrown c)) (state_at sets heap tree group c)
outcome_at sets heap tree c (shared.Begin group class) = Begin class.0 (state_at sets heap tree group c)
outcome_at sets heap tree c (shared.Native group method) = Native method.0 (state_at sets heap tree group c)
outcome_at sets heap tree c (shared.Write group stream text) = Write stream (item_or heap.texts text []) (state_at sets heap tree group c)
outcome_at sets heap tree c (shared.Ended condition end) = Ended end

-- what a configuration comes to: the outcome whose condition holds it
abbrev pub comes_to : {S I : Type 0} → Sets I → HeapView S I → List (Option (Caller S I)) → List Bool → List (Outcome S I) → Option PlainOutcome
comes_to sets heap tree c [] = None
comes_to sets heap tree c (item ∷ items) =
    if sets.test (condition_of item) c then Some (outcome_at sets heap tree c item) else comes_to sets heap tree c items

-- the group stands there: inside the path of the other, and with as many attempts as that has used
pub record Continues {S I : Type 0} (p : Program) (old new : Sets I) (heap : HeapView S I) (tree : List (Option (Caller S I))) (before after : GroupView S I) : Type 0 where
  pub stands : StandsIn p new heap tree after
  pub inside : (c : List Bool) → new.test (path_of after) c ≡ true → old.test (path_of before) c ≡ true
  pub attempts : (c : List Bool) → new.test (path_of after) c ≡ true → attempts_at new after c ≡ attempts_at old before c

-- a message is a number of the table of texts
abbrev pub IsMessage : {S I : Type 0} → HeapView S I → Option ℕ → Type 0
IsMessage heap None = Unit {0}
IsMessage heap (Some n) = n < length heap.texts

abbrev pub is_object : Slot → Bool
is_object (slot.Ref i) = true
is_object _ = false

-- what is thrown by a group: an object at each configuration of its path
pub record IsThrown {S I : Type 0} (sets : Sets I) (heap : HeapView S I) (group : GroupView S I) (thrown : Conditional Slot S I) : Type 0 where
  pub is_cond : IsCond slot_cmp sets thrown
  pub scope : thrown.scope ≡ path_of group
  pub object : (c : List Bool) → sets.test (path_of group) c ≡ true → is_object (slot_at sets thrown c) ≡ true
  pub held : (c : List Bool) → sets.test (path_of group) c ≡ true → is_held sets heap c (slot_at sets thrown c) ≡ true

-- the group of an outcome stands there, and what the outcome names is there
abbrev pub IsOutcome : {S I : Type 0} → Program → Sets I → Sets I → HeapView S I → List (Option (Caller S I)) → GroupView S I → Outcome S I → Type 0
IsOutcome p old new heap tree before (shared.Go group) = Continues p old new heap tree before group
IsOutcome p old new heap tree before (shared.Raise group class message) = Continues p old new heap tree before group × IsMessage heap message
IsOutcome p old new heap tree before (shared.Throw group thrown) = Continues p old new heap tree before group × IsThrown new heap group thrown
IsOutcome p old new heap tree before (shared.Begin group class) = Continues p old new heap tree before group
IsOutcome p old new heap tree before (shared.Native group method) = Continues p old new heap tree before group
IsOutcome p old new heap tree before (shared.Write group stream text) = Continues p old new heap tree before group × (text < length heap.texts)
IsOutcome p old new heap tree before (shared.Ended condition end) = IsKnown new condition

abbrev pub AreOutcomes : {S I : Type 0} → Program → Sets I → Sets I → HeapView S I → List (Option (Caller S I)) → GroupView S I → List (Outcome S I) → Type 0
AreOutcomes p old new heap tree before [] = Unit {0}
AreOutcomes p old new heap tree before (item ∷ items) = IsOutcome p old new heap tree before item × AreOutcomes p old new heap tree before items

-- The outcomes of a group in a set of configurations: they divide the set, each goes on from the group, and at each configuration of the set comes what is said of it.
pub record CameTo {S I : Type 0} (p : Program) (old new : Sets I) (heap : HeapView S I) (tree : List (Option (Caller S I))) (group : GroupView S I) (what : List Bool → PlainOutcome) (set : List Bool → Bool) (outcomes : List (Outcome S I)) : Type 0 where
  pub divide : Divide new set outcomes
  pub continue : AreOutcomes p old new heap tree group outcomes
  pub at : (c : List Bool) → set c ≡ true → comes_to new heap tree c outcomes ≡ Some (what c)

-- The outcomes of a whole group where heap and tree stay: at each configuration of the path comes what this function of the plain state says.
abbrev pub Yields : {S I : Type 0} → Program → (State → PlainOutcome) → Sets I → Sets I → HeapView S I → List (Option (Caller S I)) → GroupView S I → List (Outcome S I) → Type 0
Yields p says old new heap tree group outcomes = CameTo p old new heap tree group (λ c. says (state_at old heap tree group c)) (old.test (path_of group)) outcomes

-- An attempt of a group: at each configuration of its path comes what this function of the plain state says, and at each other one the plain heap stays.
pub record Attempts {S I : Type 0} (p : Program) (says : State → PlainOutcome) (old new : Sets I) (before after : HeapView S I) (tree later : List (Option (Caller S I))) (group : GroupView S I) (outcomes : List (Outcome S I)) : Type 0 where
  pub is_heap : IsHeap new after
  pub grows : Grows before after
  pub keeps : Keeps tree later
  pub came : CameTo p old new after later group (λ c. says (state_at old before tree group c)) (old.test (path_of group)) outcomes
  pub outside : (c : List Bool) → old.test (path_of group) c ≡ false → globals_at new after c ≡ globals_at old before c

-- an attempt by the row of the instruction table
abbrev pub IsAttempt : {S I : Type 0} → Program → Sets I → Sets I → HeapView S I → HeapView S I → List (Option (Caller S I)) → List (Option (Caller S I)) → GroupView S I → List (Outcome S I) → Type 0
IsAttempt p old new before after tree later group outcomes = Attempts p (row p) old new before after tree later group outcomes
