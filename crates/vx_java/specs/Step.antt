-- The start of a run, one attempt of it, and the whole run of one configuration (JVMS 2.6, 2.10, 5.2).
use Rattle.std.specs.Char.{encode_utf8}
use Rattle.std.specs.Char.Utf16.{utf16_chars}
use Rattle.std.specs.Prelude.{Bool, List, None, Option, Some, [], bytes_eq, codes, false, find, flat_map, if◌then◌else◌, length, map, nat_lt, option_map, replicate, suc, true, unwrap_or, zero, ℕ, ◌&&◌, ◌++◌, ◌+◌, ◌-◌, ◌==◌, ◌∷◌}
use Prim.Native.String.{String}
use Rattle.vx_class.specs.Members.{STATIC}
use Rattle.vx_java.specs.Checks.{same_bool}
use Rattle.vx_java.specs.FirstObjects.{first_boolean, first_objects, first_stream, first_words, object_of_first, plain_static}
use Rattle.vx_java.specs.Initialisation.{begin, chain_blocked, init_chain, new_frame, pushed_chain, quiet_chain}
use Rattle.vx_java.specs.Machine.{Begin, Ended, Ends, Frame, Go, Goes, Native, Next, Outcome, Raise, Ref, State, Throw, Top, Value, Write, current_class, depth, frame_bound, place, with_inits}
use Rattle.vx_java.specs.Natives.{native}
use Rattle.vx_java.specs.Objects.{int_of_bool}
use Rattle.vx_java.specs.Operation.{class_word}
use Rattle.vx_java.specs.Row.{row}
use Rattle.vx_java.specs.Throwing.{next_after_raise, next_after_throw}
use Rattle.vx_link.specs.ClassNames.{class_text}
use Rattle.vx_link.specs.CoreFiles.{core_count}
use Rattle.vx_link.specs.Parts.{class_at, has}
use Rattle.vx_link.specs.declared.program.LinkedField.{LinkedField}
use Rattle.vx_link.specs.declared.program.Program.{Program}
use Rattle.vx_list.specs.Places.{item_or}
use Rattle.vx_value.specs.declared.end.End.{End}
use Rattle.vx_value.specs.declared.end.End.TheVariants.{Uncaught, Unfinished, Unsupported}
use Rattle.vx_value.specs.declared.end.Stream.{Stream}
use Rattle.vx_value.specs.declared.key.Kind.TheVariants.{Call}
use Rattle.vx_value.specs.declared.slot.InitState.{InitState}
use Rattle.vx_value.specs.declared.slot.InitState.TheVariants.{Done, Not}
use lib.Pointwise.{pointwise}

-- ---- one step

-- a run so far: its state, each byte that it has written, with its stream, and the attempts that it has used
pub record Progress : Type 0 where
  pub state : State
  pub output : List (Stream × ℕ)
  pub attempts : ℕ

-- a run that goes on; or one that is over, with the state in which its last attempt was made
pub data Run : Type 0 where
  Live : (progress : Progress) → Run
  Over : (end : End) → (progress : Progress) → Run

-- a beginning and a native method are carried out; they come to neither a beginning nor a native method
abbrev pub outcome_carried_out : Program → Outcome → Outcome
outcome_carried_out p (Begin class s) = begin p s class
outcome_carried_out p (Native m s) = native p s m
outcome_carried_out p o = o

-- where an outcome leads that has been carried out
abbrev pub next : Program → Outcome → Next
next p (Go s) = Goes s
next p (Raise class message s) = next_after_raise p s class message
next p (Throw r s) = next_after_throw p s r
next p (Begin class s) = Goes s
next p (Native m s) = Goes s
next p (Write stream units s) = Goes s
next p (Ended e) = Ends e

-- the bytes of a text: UTF-8, where an unpaired surrogate is ?
abbrev pub utf8_of : List ℕ → List ℕ
utf8_of units = flat_map (λ c. encode_utf8 (unwrap_or c 63)) (utf16_chars units)

-- what an outcome writes
abbrev pub text_of : Outcome → List (Stream × ℕ)
text_of (Write stream units s) = map (λ b. (stream, b)) (utf8_of units)
text_of _ = []

abbrev pub run_after : Progress → List (Stream × ℕ) → Next → Run
run_after g text (Goes s) = Live (record { state = s; output = g.output ++ text; attempts = suc g.attempts })
run_after g text (Ends e) = Over e (record { state = g.state; output = g.output ++ text; attempts = suc g.attempts })

-- one attempt
abbrev pub step : Program → Progress → Run
step p g = let o = outcome_carried_out p (row p g.state) in run_after g (text_of o) (next p o)

-- ---- the start

-- a configuration is a truth value per option
abbrev pub Config : Type 0
Config = List Bool

abbrev pub same_config : Config → Config → Bool
same_config a b = pointwise same_bool a b

-- a static field of a core class that begins with a first object: out and err of System, TRUE and FALSE of Boolean
abbrev pub first_statics : List (String × String × ℕ)
first_statics =
    ("java/lang/System", "out", first_stream 0)
    ∷ ("java/lang/System", "err", first_stream 1)
    ∷ ("java/lang/Boolean", "TRUE", first_boolean 1)
    ∷ ("java/lang/Boolean", "FALSE", first_boolean 0)
    ∷ []

abbrev pub core_static : (class name : List ℕ) → Option ℕ
core_static class name =
    option_map (λ row. row.2) (find (λ row. bytes_eq (codes row.0) class && bytes_eq (codes row.1) name) first_statics)

abbrev pub not_core : Program → LinkedField → Option ℕ → Value
not_core p f (Some r) = Ref r
not_core p f None = plain_static p f

abbrev pub not_option : Program → LinkedField → Config → Option ℕ → Value
not_option p f c (Some option) = int_of_bool (item_or c option false)
not_option p f c None = not_core p f (core_static (class_at p f.class.0).name f.name)

-- what a static field begins with
abbrev pub first_static : Program → Config → LinkedField → Value
first_static p c f = elim (has STATIC f.flags) [ true ↦ not_option p f c f.option | false ↦ Top ]

-- the core classes, which are the last ones, are initialised
abbrev pub first_inits : Program → List InitState
first_inits p = replicate (length p.classes - core_count) Not ++ replicate core_count Done

abbrev pub before_main : Program → Config → State
before_main p c =
    record {
      heap = map (object_of_first p) (first_objects p);
      statics = map (first_static p c) p.fields;
      inits = first_inits p;
      top = new_frame p Call p.main.0 (Ref (first_words p) ∷ []);
      callers = [];
    }

-- a run that has made no attempt
abbrev pub fresh_progress : State → Progress
fresh_progress s = record { state = s; output = []; attempts = 0 }

-- the chain of the main class is marked, or has its frames above that of main; a blocking interface or one frame too many ends the run
abbrev pub with_room : Program → State → List ℕ → Bool → Run
with_room p s chain true = Over (Uncaught (codes "java/lang/StackOverflowError")) (fresh_progress s)
with_room p s chain false = Live (fresh_progress (pushed_chain p s chain))

abbrev pub if_quiet : Program → State → List ℕ → Bool → Run
if_quiet p s chain true = Live (fresh_progress (with_inits s Done chain))
if_quiet p s chain false = with_room p s chain (nat_lt frame_bound (depth s + length chain))

abbrev pub begun : Program → State → ℕ → List ℕ → Option ℕ → Run
begun p s c chain (Some i) = Over (Unsupported class_word (class_text p i) (place p s)) (fresh_progress s)
begun p s c chain None = if_quiet p s chain (quiet_chain p s.inits c)

abbrev pub start : Program → Config → Run
start p c =
    let s = before_main p c in
    let main_class = current_class p s in
    let chain = init_chain p s.inits main_class in
    begun p s main_class chain (chain_blocked p chain)

-- ---- the run of one configuration

-- how a run of at most n attempts ends: its output with the end and the attempts used, or unfinished
pub record RunResult : Type 0 where
  pub output : List (Stream × ℕ)
  pub end : End
  pub attempts : ℕ

abbrev pub result : Run → RunResult
result (Live g) = record { output = g.output; end = Unfinished; attempts = g.attempts }
result (Over e g) = record { output = g.output; end = e; attempts = g.attempts }

-- so many attempts at most
abbrev pub steps : Program → ℕ → Run → Run
steps p zero r = r
steps p (suc n) (Over e g) = Over e g
steps p (suc n) (Live g) = steps p n (step p g)

abbrev pub run : Program → Config → ℕ → RunResult
run p c n = result (steps p n (start p c))

-- ---- the trace of a run

abbrev pub frames_of : State → List Frame
frames_of s = s.top ∷ s.callers

-- the frames, the one on top first, of the state in which the last attempt was made where the run is over, and of the state reached where it is not; none where the run ended at its start
abbrev pub trace : Run → List Frame
trace (Live g) = frames_of g.state
trace (Over e g) = if g.attempts == 0 then [] else frames_of g.state
