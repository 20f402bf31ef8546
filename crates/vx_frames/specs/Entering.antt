-- Frames of methods that begin: of one that is called, of an initialisation, and of main (JVMS 2.6, 5.5).
use Rattle.std.specs.Prelude.{◌≡◌, ◌+◌, ◌++◌, ◌-◌, ◌≤◌, ℕ, Bool, true, false, List, [], ◌∷◌, length, map, replicate, suc, Option}
use Rattle.vx_value.specs.declared.ids.MethodId.{MethodId}
use Rattle.vx_value.specs.declared.key.Kind.{Kind}
use Rattle.vx_value.specs.declared.slot.Slot.{Slot}
use Rattle.vx_value.specs.declared.slot.Slot.TheVariants.{Top, Long}
use Rattle.vx_value.specs.Slot.{slot_cmp}
use Rattle.vx_space.specs.Sets.{Sets}
use Rattle.vx_cond.specs.Cond.{Conditional}
use Rattle.vx_cond.specs.Row.{AreConds}
use Rattle.vx_cond.specs.Slots.{slot_at}
use Rattle.vx_frame.specs.declared.frame.Frame.{Frame}
use Rattle.vx_frame.specs.Frame.{PlainFrame, IsFrameOf, scope_of, shape_of}
use Rattle.vx_group.specs.declared.callers.Caller.{Caller}
use Rattle.vx_group.specs.Group.{GroupView, IsGroupIn, depth_of, path_of}
use Rattle.vx_heap.specs.Heap.{HeapView, are_held, value_of}
use Rattle.vx_java.specs.Calls.{in_locals}
use Rattle.vx_java.specs.Initialisation.{max_locals, new_frame}
use Rattle.vx_java.specs.Machine.{State, Value}
use Rattle.vx_java.specs.Machine.{Frame as MachineFrame}
use Rattle.vx_link.specs.Parts.{method_at}
use Rattle.vx_link.specs.declared.program.Program.{Program}
use Rattle.vx_group_states.specs.Stands.{Continues, StandsIn, state_at}

-- ---- values with which a method begins

-- their slots at a configuration
abbrev pub arguments_at : {S I : Type 0} → Sets I → List (Conditional Slot S I) → List Bool → List Slot
arguments_at sets values c = map (λ cond. slot_at sets cond c) values

-- and their plain values
abbrev pub values_at : {S I : Type 0} → Sets I → HeapView S I → List (Conditional Slot S I) → List Bool → List Value
values_at sets heap values c = map (value_of sets heap c) (arguments_at sets values c)

-- they name what is there, at each configuration of a path
pub record AreArgumentsHeld {S I : Type 0} (sets : Sets I) (heap : HeapView S I) (path : I) (values : List (Conditional Slot S I)) : Type 0 where
  pub held : (c : List Bool) → sets.test path c ≡ true → are_held sets heap c (arguments_at sets values c) ≡ true

abbrev pub is_long : Slot → Bool
is_long (Long n) = true
is_long _ = false

-- each value is a long where that is said, at each configuration of a path
abbrev pub AreLongs : {S I : Type 0} → Sets I → I → List (Conditional Slot S I) → List Bool → Type 0
AreLongs sets path [] longs = Unit {0}
AreLongs sets path (value ∷ values) [] = ⊥
AreLongs sets path (value ∷ values) (long ∷ longs) =
    ((c : List Bool) → sets.test path c ≡ true → is_long (slot_at sets value c) ≡ long) × AreLongs sets path values longs

-- how many locals values take (JVMS 2.6.1)
abbrev pub locals_taken : List Bool → ℕ
locals_taken [] = 0
locals_taken (true ∷ longs) = 2 + locals_taken longs
locals_taken (false ∷ longs) = 1 + locals_taken longs

-- values of one path, of which the same are longs at each configuration of it, and which so many locals have room for
pub record AreArguments {S I : Type 0} (sets : Sets I) (path : I) (most : ℕ) (values : List (Conditional Slot S I)) : Type 0 where
  pub conds : AreConds slot_cmp sets path values
  pub longs : List Bool
  pub are_longs : AreLongs sets path values longs
  pub room : locals_taken longs ≤ most

-- ---- the frame

-- the locals that slots take: two for a long, of which the second can't be read (JVMS 2.6.1)
abbrev pub slots_in_locals : List Slot → List Slot
slots_in_locals [] = []
slots_in_locals (Long n ∷ slots) = Long n ∷ Top ∷ slots_in_locals slots
slots_in_locals (slot ∷ slots) = slot ∷ slots_in_locals slots

-- so many locals, which begin with these slots; the others can't be read
abbrev pub locals_with : (count : ℕ) → List Slot → List Slot
locals_with count slots = slots_in_locals slots ++ replicate (count - length (slots_in_locals slots)) Top

-- at position 0, with no operands
abbrev pub begun_frame : Program → Kind → (method : ℕ) → List Slot → PlainFrame
begun_frame p kind method slots =
    record { kind = kind; method = method; position = 0; locals = locals_with (max_locals (method_at p method).code) slots; operands = [] }

-- the frame of a method that begins with these values, for a path
pub record IsBegun {S I : Type 0} (p : Program) (sets : Sets I) (path : I) (kind : Kind) (method : MethodId) (values : List (Conditional Slot S I)) (frame : Frame S I) : Type 0 where
  pub scope : scope_of frame ≡ path
  pub shape : shape_of frame ≡ record { part = record { method = method; position = 0; depth = 0; kind = kind }; locals = max_locals (method_at p method.0).code }
  pub is_frame : IsFrameOf sets (λ c. begun_frame p kind method.0 (arguments_at sets values c)) frame

-- ---- the group

-- a state with a frame more, above the one that was on top
abbrev pub with_frame : State → MachineFrame → State
with_frame s frame = record s { top = frame; callers = s.top ∷ s.callers }

-- A frame was pushed on a group, over a later tree: at each configuration of the path stands the state with the frame of the method that begins, over each heap in which the values name what is there.
pub record IsEntered {S I : Type 0} (p : Program) (sets : Sets I) (tree later : List (Option (Caller S I))) (before : GroupView S I) (kind : Kind) (method : MethodId) (values : List (Conditional Slot S I)) (after : GroupView S I) : Type 0 where
  pub is_group : IsGroupIn sets later after
  pub attempts : after.attempts ≡ before.attempts
  pub depth : depth_of after ≡ suc (depth_of before)
  pub continues : (heap : HeapView S I) → StandsIn p sets heap tree before → AreArgumentsHeld sets heap (path_of before) values → Continues p sets sets heap later before after
  pub at : (heap : HeapView S I) (c : List Bool) → sets.test (path_of before) c ≡ true → state_at sets heap later after c ≡ with_frame (state_at sets heap tree before c) (new_frame p kind method.0 (in_locals (values_at sets heap values c)))
