-- Throwing: the exception object, and the unwinding of frames (JVMS 2.10, 5.5).
use Rattle.std.specs.Prelude.{Bool, List, None, Option, Some, [], if◌then◌else◌, length, slice_set, ℕ, ◌+◌, ◌-◌, ◌∷◌}
use Rattle.vx_java.specs.FirstObjects.{new_cells, string_object}
use Rattle.vx_java.specs.Machine.{Ends, Frame, Goes, Next, Null, Object, Ref, State, Value, current_class, next_object, object_at, with_inits, with_objects}
use Rattle.vx_java.specs.Selection.{handler_for}
use Rattle.vx_link.specs.Assignability.{assignable}
use Rattle.vx_link.specs.ClassNames.{class_text, core_class}
use Rattle.vx_link.specs.declared.program.Program.{Program}
use Rattle.vx_value.specs.declared.end.End.TheVariants.{Uncaught}
use Rattle.vx_value.specs.declared.key.Kind.{Kind}
use Rattle.vx_value.specs.declared.key.Kind.TheVariants.{Call, Wait}
use Rattle.vx_value.specs.declared.slot.InitState.TheVariants.{Failed}

-- the cells of a throwable: its message and its cause
abbrev pub throwable : Program → ℕ → Value → Value → Object
throwable p class message cause =
    record { class = class; size = 0; cells = slice_set (slice_set (new_cells p class) 0 message) 1 cause }

-- an exception's objects, its message's text before it; the exception is the last of them
abbrev pub exception_objects : Program → State → ℕ → Option (List ℕ) → List Object
exception_objects p s class None = throwable p class Null Null ∷ []
exception_objects p s class (Some message) = string_object p message ∷ throwable p class (Ref (next_object s)) Null ∷ []

-- the state in the frame that handles an exception, with the object alone on its operands
abbrev pub next_in_handler : State → ℕ → ℕ → Next
next_in_handler s r handler = Goes (record s { top = record (s.top) { position = handler; operands = Ref r ∷ [] } })

-- an object that leaves an initialisation: an Error stays, another is wrapped
abbrev pub is_error : Program → State → ℕ → Bool
is_error p s r = assignable p (object_at s r).class (core_class p "java/lang/Error")

abbrev pub with_wrapper : Program → State → ℕ → State
with_wrapper p s r = with_objects s (throwable p (core_class p "java/lang/ExceptionInInitializerError") Null (Ref r) ∷ [])

-- a frame that is passed: an initialisation marks its class Failed, and the object is wrapped
abbrev pub passed_object : Program → State → Kind → ℕ → ℕ
passed_object p s Call r = r
passed_object p s _ r = if is_error p s r then r else next_object s

abbrev pub passed_state : Program → State → Kind → ℕ → State
passed_state p s Call r = s
passed_state p s _ r = with_inits (if is_error p s r then s else with_wrapper p s r) Failed (current_class p s ∷ [])

-- the handler of a frame; one that waits handles nothing
abbrev pub handler_of : Program → State → Kind → ℕ → Option ℕ
handler_of p s Wait r = None
handler_of p s _ r = handler_for p s.top.method s.top.position (object_at s r).class

-- with no frame left the run ends by the class then thrown
abbrev pub uncaught : Program → State → ℕ → Next
uncaught p s r = Ends (Uncaught (class_text p (object_at s r).class))

-- from the frame on top down, over the frames below it
abbrev pub unwind : Program → State → ℕ → List Frame → Next
unwind p s r [] =
    elim (handler_of p s s.top.kind r) [
      | Some handler ↦ next_in_handler s r handler
      | None ↦ uncaught p (passed_state p s s.top.kind r) (passed_object p s s.top.kind r)
    ]
unwind p s r (f ∷ below) =
    elim (handler_of p s s.top.kind r) [
      | Some handler ↦ next_in_handler s r handler
      | None ↦ unwind p (record (passed_state p s s.top.kind r) { top = f; callers = below }) (passed_object p s s.top.kind r) below
    ]

-- an object is thrown in a state
abbrev pub next_after_throw : Program → State → ℕ → Next
next_after_throw p s r = unwind p s r s.callers

-- a class is raised: its exception is made and thrown
abbrev pub next_after_raise : Program → State → ℕ → Option (List ℕ) → Next
next_after_raise p s class message =
    let objects = exception_objects p s class message in
    next_after_throw p (with_objects s objects) (next_object s + length objects - 1)
