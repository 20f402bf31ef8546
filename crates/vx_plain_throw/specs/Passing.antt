-- Objects that pass frames (JVMS 2.10, 5.5).
use Rattle.std.specs.Prelude.{◌≡◌, ◌+◌, List, None, Option, Some, [], if◌then◌else◌, length, ℕ, ◌∷◌}
use Rattle.vx_java.specs.Machine as machine
use Rattle.vx_java.specs.Machine.{Frame, Ref, State, next_object, object_at}
use Rattle.vx_java.specs.Selection.{handler_for}
use Rattle.vx_java.specs.Step.{frames_of}
use Rattle.vx_java.specs.Throwing.{is_error, unwind, with_wrapper}
use Rattle.vx_link.specs.Assignability.{assignable}
use Rattle.vx_link.specs.ClassNames.{core_class}
use Rattle.vx_link.specs.declared.program.Program.{Program}
use Rattle.vx_plain_here.specs.Rows.{places_of}
use Rattle.vx_plain_throw.specs.declared.next.Next.{Next}
use Rattle.vx_plain_throw.specs.declared.next.Next.TheVariants.{Ends, Goes}
use Rattle.vx_value.specs.declared.key.Kind.{Kind}
use Rattle.vx_value.specs.declared.key.Kind.TheVariants.{Call, Wait}

-- the handler of a frame for an object of a class
abbrev pub handler_by : Program → Kind → Frame → (thrown : ℕ) → Option ℕ
handler_by p Wait f thrown = None
handler_by p _ f thrown = handler_for p f.method f.position thrown

abbrev pub handler_at : Program → Frame → (thrown : ℕ) → Option ℕ
handler_at p f thrown = handler_by p f.kind f thrown

-- the class behind a frame of an initialisation
abbrev pub wrapper_or : Program → ℕ → ℕ
wrapper_or p thrown = if assignable p thrown (core_class p "java/lang/Error") then thrown else core_class p "java/lang/ExceptionInInitializerError"

abbrev pub class_behind : Program → Kind → ℕ → ℕ
class_behind p Call thrown = thrown
class_behind p _ thrown = wrapper_or p thrown

-- the class behind a frame that does not handle what is thrown
abbrev pub behind : Program → Frame → ℕ → Option ℕ
behind p f thrown = elim (handler_at p f thrown) [ Some handler ↦ None | None ↦ Some (class_behind p f.kind thrown) ]

-- the class that is thrown in the end, past all these frames, where none handles it
abbrev pub uncaught_over : Program → List Frame → ℕ → Option ℕ
uncaught_over p [] thrown = Some thrown
uncaught_over p (f ∷ rest) thrown = elim (behind p f thrown) [ None ↦ None | Some class ↦ uncaught_over p rest class ]

-- one of the frames of a state handles an object
abbrev pub IsHandled : Program → State → ℕ → Type 0
IsHandled p s r = None ≡ uncaught_over p (frames_of s) (object_at s r).class

-- an object has passed the frame on top, and one of those left handles what is thrown behind it
pub record HasPassed (p : Program) (old : State) (object : ℕ) (new : State) (thrown : ℕ) : Type 0 where
  pub same : unwind p old object old.callers ≡ unwind p new thrown new.callers
  pub handled : IsHandled p new thrown
  pub fewer : length old.callers ≡ length new.callers + 1

-- what leaves an initialisation
abbrev pub wrapped_object : Program → State → ℕ → ℕ
wrapped_object p s r = if is_error p s r then r else next_object s

abbrev pub wrapped_state : Program → State → ℕ → State
wrapped_state p s r = if is_error p s r then s else with_wrapper p s r

-- the frame on top in its handler, with the object alone on its operands
abbrev pub in_handler : State → (object handler : ℕ) → State
in_handler s r handler = record s { top = record (s.top) { position = handler; operands = Ref r ∷ [] } }

-- where an outcome leads, over the state that was changed; where the run ends, its frames stand as they stood
abbrev pub Led : machine.Next → State → State → Next → Type 0
Led said old new Goes = said ≡ machine.Goes new
Led said old new (Ends end) = (said ≡ machine.Ends end) × (places_of new ≡ places_of old)
