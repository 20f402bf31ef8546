-- How runs begin: with the initialisation of the class of main (JVMS 5.2, 5.5).
use Rattle.std.specs.Prelude.{◌≡◌, ◌≢◌, ◌<◌, ◌≤◌, ◌-◌, ◌∷◌, ℕ, Bool, true, false, List, [], Option, replicate, reverse}
use Rattle.vx_space.specs.Sets.{IsKnown, Sets}
use Rattle.vx_families.specs.Bounds.{IsBounded}
use Rattle.vx_frame.specs.Frame.{PlainFrame, frame_at}
use Rattle.vx_group.specs.declared.callers.Caller.{Caller}
use Rattle.vx_group.specs.Group.{GroupView, attempts_at, path_of}
use Rattle.vx_heap.specs.First.{first_globals}
use Rattle.vx_heap.specs.Heap.{Globals, HeapView, IsHeap, IsHeapFor, globals_at, has_options}
use Rattle.vx_java.specs.FirstObjects.{first_words}
use Rattle.vx_java.specs.Initialisation.{init_chain, max_locals, new_frame, pushed_chain, with_frames}
use Rattle.vx_java.specs.Machine.{Ref, State, inits_with, with_inits}
use Rattle.vx_java.specs.Step.{Config, Live, Over, before_main, first_inits, fresh_progress, start}
use Rattle.vx_link.specs.Parts.{method_at}
use Rattle.vx_link.specs.declared.program.Program.{Program}
use Rattle.vx_group_states.specs.Stands.{StandsIn, plain_frame, state_at, state_of}
use Rattle.vx_standing.specs.State.{StateView, most_attempts}
use Rattle.vx_value.specs.declared.end.End.{End}
use Rattle.vx_value.specs.declared.key.Kind.TheVariants.{Call}
use Rattle.vx_value.specs.declared.slot.InitState.{InitState}
use Rattle.vx_value.specs.declared.slot.InitState.TheVariants.{Done}
use Rattle.vx_value.specs.declared.slot.Slot.TheVariants as slot

-- Runs of a program may start in some configurations, each with so many attempts: the program keeps to its bounds, and its fields begin with options of the
-- space; there is such a configuration; and each run has an attempt, and no more than the most.
pub record MayStart {I : Type 0} (p : Program) (sets : Sets I) (allowed : I) (limit : ℕ) : Type 0 where
  pub bounded : IsBounded p
  pub options : has_options sets.options p.fields ≡ true
  pub known : IsKnown sets allowed
  pub some : allowed ≢ sets.never
  pub least : 0 < limit
  pub most : limit ≤ most_attempts

-- ---- the class of main

abbrev pub main_class : Program → ℕ
main_class p = (method_at p p.main.0).class.0

-- the classes with which its initialisation begins
abbrev pub main_chain : Program → List ℕ
main_chain p = init_chain p (first_inits p) (main_class p)

abbrev pub main_locals : Program → ℕ
main_locals p = max_locals (method_at p p.main.0).code

-- ---- what the start comes to

-- the state with which a run goes on: the classes are initialised, or their frames stand above that of main
abbrev pub first_state : Program → Config → (is_quiet : Bool) → State
first_state p c true = with_inits (before_main p c) Done (main_chain p)
first_state p c false = pushed_chain p (before_main p c) (main_chain p)

-- each run goes on so
pub record GoOn (p : Program) (is_quiet : Bool) : Type 0 where
  pub live : (c : Config) → start p c ≡ Live (fresh_progress (first_state p c is_quiet))

-- each run is over at its start, with this end
pub record EndAtStart (p : Program) (end : End) : Type 0 where
  pub over : (c : Config) → start p c ≡ Over end (fresh_progress (before_main p c))

-- ---- the heap and the group of main

-- the heap with which runs begin, where some classes have a state
pub record IsMarkedHeap {S I : Type 0} (p : Program) (sets : Sets I) (allowed : I) (state : InitState) (classes : List ℕ) (heap : HeapView S I) : Type 0 where
  pub is_heap : IsHeap sets heap
  pub is_for : IsHeapFor p heap
  pub runs : heap.allowed ≡ allowed
  pub at : (c : List Bool) → sets.test allowed c ≡ true → globals_at sets heap c ≡ record (first_globals p c) { inits = inits_with (first_inits p) state classes }

-- the frame of main, with the array in its first local
abbrev pub main_frame : Program → (words : ℕ) → PlainFrame
main_frame p words =
    record { kind = Call; method = p.main.0; position = 0; locals = slot.Ref words ∷ replicate (main_locals p - 1) slot.Top; operands = [] }

-- a state at the start of main
abbrev pub main_state : Program → Globals → State
main_state p g = state_of g (new_frame p Call p.main.0 (Ref (first_words p) ∷ [])) []

-- the group of all runs at the start of main
pub record IsMainGroup {S I : Type 0} (p : Program) (sets : Sets I) (allowed : I) (heap : HeapView S I) (group : GroupView S I) : Type 0 where
  pub stands : StandsIn p sets heap [] group
  pub path : path_of group ≡ allowed
  pub single : group.below ≡ []
  pub fresh : (c : List Bool) → sets.test allowed c ≡ true → attempts_at sets group c ≡ 0
  pub frame : (c : List Bool) → sets.test allowed c ≡ true → plain_frame sets heap c (frame_at sets group.top c) ≡ new_frame p Call p.main.0 (Ref (first_words p) ∷ [])

-- the group of all runs at the start of the topmost class of a chain, over this tree: the frames of the chain stand above that of main
pub record IsPushedGroup {S I : Type 0} (p : Program) (sets : Sets I) (allowed : I) (heap : HeapView S I) (tree : List (Option (Caller S I))) (chain : List ℕ) (group : GroupView S I) : Type 0 where
  pub stands : StandsIn p sets heap tree group
  pub path : path_of group ≡ allowed
  pub fresh : (c : List Bool) → sets.test allowed c ≡ true → attempts_at sets group c ≡ 0
  pub at : (c : List Bool) → sets.test allowed c ≡ true → state_at sets heap tree group c ≡ with_frames p (main_state p (globals_at sets heap c)) (reverse chain)

-- the state of runs that stand in one group and have made no attempt
abbrev pub begun_state : {S I : Type 0} → HeapView S I → List (Option (Caller S I)) → (limit : ℕ) → GroupView S I → StateView S I
begun_state heap tree limit group = record { heap = heap; tree = tree; groups = group ∷ []; limit = limit; rounds = 0; found = []; ends = []; spent = [] }
