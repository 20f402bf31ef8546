-- What is said of the outcomes of rows, whatever it says: where it holds as a row goes on, writes, raises and ends, it holds of what rows choose among these.
use Rattle.std.proofs.Common.{Bool, List, None, Option, Some, bytes_eq, codes, false, length, refl, true, ℕ, ℤ, ◌+◌, ◌≡◌}
use Prim.Native.String.{String}
use Rattle.std.specs.List.{list_any}
use Rattle.std.specs.Prelude.{nat_lt}
use Rattle.vx_java.specs.Calls.{if_arguments}
use Rattle.vx_java.specs.Initialisation.{begin, begin_chain, chain_blocked, init_chain, is_below_failed, pushed_chain}
use Rattle.vx_java.specs.Machine.{Ended, Go, Here, Object, Outcome, Raise, State, Value, Write, current_class, depth, frame_bound, illegal, place, raise, unsupported_in, when, with_inits}
use Rattle.vx_java.specs.Operation.{class_word}
use Rattle.vx_java.specs.Step.{Config, Live, Over, Run, before_main, begun, fresh_progress, if_quiet, start, with_room}
use Rattle.vx_kept_facts.specs.Law.{raised}
use Rattle.vx_link.specs.ClassNames.{class_text, core_class}
use Rattle.vx_link.specs.declared.program.Program.{Program}
use Rattle.vx_value.specs.declared.end.End.TheVariants.{Exit, Uncaught, Unsupported}
use Rattle.vx_value.specs.declared.end.Stream.{Stream}
use Rattle.vx_value.specs.declared.slot.InitState.TheVariants.{Done, Failed}

-- the state of the site with another heap, other statics, and in the frame on top another position, other locals and operands
abbrev pub moved : Here → List Object → (statics locals operands : List Value) → (position : ℕ) → State
moved h heap statics locals operands position =
    record {
      heap = heap;
      statics = statics;
      inits = h.state.inits;
      top = record { kind = h.state.top.kind; method = h.state.top.method; position = position; locals = locals; operands = operands };
      callers = h.state.callers;
    }

-- the state of the site with another heap
abbrev pub moved_heap : Here → List Object → State
moved_heap h heap = record { heap = heap; statics = h.state.statics; inits = h.state.inits; top = h.state.top; callers = h.state.callers }

-- a core class of those that are raised
abbrev pub is_raised : String → Bool
is_raised name = list_any (λ n. bytes_eq (codes n) (codes name)) raised

-- what is said of an outcome where an instruction stands: it holds where the run goes on behind the instruction, with a text written or without, where a class is raised, where a rule is broken, and where the run exits
pub record Claim : Type 1 where
  pub At : Here → Type 0
  pub May : Program → Outcome → Type 0
  pub passes : (h : Here) {heap : List Object} {statics locals operands : List Value} → At h → May h.program (Go (moved h heap statics locals operands (h.state.top.position + h.size)))
  pub writes : (h : Here) {heap : List Object} {statics locals operands : List Value} {stream : Stream} {units : List ℕ} → At h
      → May h.program (Write stream units (moved h heap statics locals operands (h.state.top.position + h.size)))
  pub raises : (h : Here) {message : Option (List ℕ)} {heap : List Object} → At h → (name : String) → is_raised name ≡ true → May h.program (Raise (core_class h.program name) message (moved_heap h heap))
  pub breaks : (h : Here) → May h.program (illegal h)
  pub exits : (h : Here) (code : ℤ) → May h.program (Ended (Exit code))

module _ (claim : Claim) where
  pub chosen : (p : Program) (b : Bool) (x y : Outcome) → claim.May p x → claim.May p y → claim.May p (when b x y)
  chosen p true x y first second = first
  chosen p false x y first second = second

  pub arguments_come : (h : Here) (taken : Option (List Value × List Value)) (next : List Value → List Value → Outcome) → ((values rest : List Value) → claim.May h.program (next values rest))
      → claim.May h.program (if_arguments h taken next)
  arguments_come h None next each = claim.breaks h
  arguments_come h (Some (values, rest)) next each = each values rest

  pub null_pointer : (h : Here) → claim.At h → claim.May h.program (raise h "java/lang/NullPointerException")
  null_pointer h at = claim.raises h at "java/lang/NullPointerException" refl

  pub no_memory : (h : Here) → claim.At h → claim.May h.program (raise h "java/lang/OutOfMemoryError")
  no_memory h at = claim.raises h at "java/lang/OutOfMemoryError" refl

  pub negative_size : (h : Here) → claim.At h → claim.May h.program (raise h "java/lang/NegativeArraySizeException")
  negative_size h at = claim.raises h at "java/lang/NegativeArraySizeException" refl

-- ---- beginnings

-- what is said of a beginning, where it is said of each of the four things to which it may come
pub begin_comes : (May : Outcome → Type 0) (p : Program) (s : State) (c : ℕ)
    → ((i : ℕ) → chain_blocked p (init_chain p s.inits c) ≡ Some i → May (unsupported_in p s class_word (class_text p i)))
    → May (Raise (core_class p "java/lang/NoClassDefFoundError") None (with_inits s Failed (init_chain p s.inits c)))
    → May (Raise (core_class p "java/lang/StackOverflowError") None s)
    → May (Go (pushed_chain p s (init_chain p s.inits c)))
    → May (begin p s c)
begin_comes May p s c blocks fails overflows pushes = by (chain_blocked p (init_chain p s.inits c)) refl
  where
    either : (b : Bool) (x y : Outcome) → May x → May y → May (when b x y)
    either true x y first second = first
    either false x y first second = second

    by : (blocking : Option ℕ) → chain_blocked p (init_chain p s.inits c) ≡ blocking → May (begin_chain p s c (init_chain p s.inits c) blocking)
    by None is = either (is_below_failed p s.inits c) _ _ fails (either (nat_lt frame_bound (depth s + length (init_chain p s.inits c))) _ _ overflows pushes)
    by (Some i) is = blocks i is

-- the chain of the main class
abbrev pub main_chain : Program → Config → List ℕ
main_chain p config = init_chain p (before_main p config).inits (current_class p (before_main p config))

-- what is said of the start of a run, where it is said of each of the four ways to begin it
pub start_comes : (P : Run → Type 0) (p : Program) (config : Config)
    → ((i : ℕ) → chain_blocked p (main_chain p config) ≡ Some i → P (Over (Unsupported class_word (class_text p i) (place p (before_main p config))) (fresh_progress (before_main p config))))
    → P (Over (Uncaught (codes "java/lang/StackOverflowError")) (fresh_progress (before_main p config)))
    → P (Live (fresh_progress (pushed_chain p (before_main p config) (main_chain p config))))
    → P (Live (fresh_progress (with_inits (before_main p config) Done (main_chain p config))))
    → P (start p config)
start_comes P p config blocks overflows pushes marks = by (chain_blocked p (main_chain p config)) refl
  where
    with_frames : (full : Bool) → P (with_room p (before_main p config) (main_chain p config) full)
    with_frames true = overflows
    with_frames false = pushes

    free : (quiet : Bool) → P (if_quiet p (before_main p config) (main_chain p config) quiet)
    free true = marks
    free false = with_frames _

    by : (blocking : Option ℕ) → chain_blocked p (main_chain p config) ≡ blocking → P (begun p (before_main p config) (current_class p (before_main p config)) (main_chain p config) blocking)
    by None is = free _
    by (Some i) is = blocks i is
