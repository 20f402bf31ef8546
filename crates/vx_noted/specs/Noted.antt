-- The frames that a throwable notes as it is made (the class library of Java SE 7: the constructors of Throwable), and the attempt that makes it.
use Rattle.std.specs.Prelude.{Bool, List, None, Option, Some, [], false, if◌then◌else◌, is_some, length, map, slice_get, suc, true, zero, ℕ, ◌+◌, ◌-◌, ◌==◌, ◌∷◌}
use Rattle.vx_java.specs.Machine.{Ends, Frame, Goes, Native, Next, Outcome, Raise, Ref, State, Throw, Value, next_object, object_at}
use Rattle.vx_java.specs.Row.{row}
use Rattle.vx_java.specs.Selection.{handler_for}
use Rattle.vx_java.specs.Step.{Live, Over, Run, frames_of, next, outcome_carried_out}
use Rattle.vx_java.specs.Throwing.{exception_objects}
use Rattle.vx_link.specs.Assignability.{assignable}
use Rattle.vx_link.specs.ClassNames.{core_class}
use Rattle.vx_link.specs.Parts.{method_at}
use Rattle.vx_link.specs.declared.program.Program.{Program}
use Rattle.vx_noted.specs.declared.frames.Standing.{Standing}
use Rattle.vx_value.specs.declared.key.Kind.{Kind}
use Rattle.vx_value.specs.declared.key.Kind.TheVariants.{Call, Wait}

-- ---- frames

-- where a frame stands, and its kind
abbrev pub standing_at : Frame → Standing
standing_at f = record { kind = f.kind; method = record { 0 = f.method }; position = f.position }

-- those of a state, the one on top first
abbrev pub standings_of : State → List Standing
standings_of s = map standing_at (frames_of s)

-- ---- a constructor

-- how many arguments a native constructor of throwables takes, by its number; any other method is none
abbrev pub constructor_arguments : (native : ℕ) → Option ℕ
constructor_arguments n = if n == 86 then Some 0 else if n == 87 then Some 1 else if n == 88 then Some 2 else None

abbrev pub is_object : ℕ → Option Value → Bool
is_object r (Some (Ref o)) = o == r
is_object r _ = false

-- whether an object is the receiver, below so many arguments
abbrev pub is_receiver : State → ℕ → Option ℕ → Bool
is_receiver s r None = false
is_receiver s r (Some arguments) = is_object r (slice_get s.top.operands arguments)

-- the frames that a native constructor notes in an object: those of the state in which it is carried out
abbrev pub in_receiver : Program → State → (method : ℕ) → ℕ → Option (List Standing)
in_receiver p s m r = if is_receiver s r (constructor_arguments (method_at p m).native) then Some (standings_of s) else None

abbrev pub by_constructor : Program → Outcome → ℕ → Option (List Standing)
by_constructor p (Native m s) r = in_receiver p s m r
by_constructor p _ r = None

-- ---- what is raised, and what wraps it

-- the handler of a frame for an object of a class; one that waits handles nothing
abbrev pub handler_by : Program → Kind → Standing → (thrown : ℕ) → Option ℕ
handler_by p Wait f thrown = None
handler_by p _ f thrown = handler_for p f.method.0 f.position thrown

abbrev pub handles : Program → Standing → (thrown : ℕ) → Bool
handles p f thrown = is_some (handler_by p f.kind f thrown)

abbrev pub is_call : Kind → Bool
is_call Call = true
is_call _ = false

-- main, alone below the initialisation of its class, has not been called yet
abbrev pub called_below : Program → Standing → List Standing → List Standing
called_below p f [] = []
called_below p f (main ∷ []) = if (method_at p f.method.0).class.0 == (method_at p main.method.0).class.0 then [] else main ∷ []
called_below p f (g ∷ h ∷ rest) = g ∷ h ∷ rest

-- the frames below the first initialisation that an object of a class leaves; none where a frame handles it before that
abbrev pub below_initialisation : Program → (thrown : ℕ) → List Standing → Option (List Standing)
below_initialisation p thrown [] = None
below_initialisation p thrown (f ∷ below) =
    if handles p f thrown then None else if is_call f.kind then below_initialisation p thrown below else Some (called_below p f below)

-- what leaves an initialisation is wrapped there, unless it is an error (JVMS 5.5)
abbrev pub below_wrapped : Program → (thrown : ℕ) → List Standing → Option (List Standing)
below_wrapped p thrown frames =
    if assignable p thrown (core_class p "java/lang/Error") then None else below_initialisation p thrown frames

-- the frames that a wrapper notes, where an object is that wrapper
abbrev pub in_wrapper : Program → (wrapper thrown : ℕ) → List Standing → ℕ → Option (List Standing)
in_wrapper p wrapper thrown frames r = if wrapper == r then below_wrapped p thrown frames else None

-- a message has a text
abbrev pub texts_of : Option (List ℕ) → ℕ
texts_of None = 0
texts_of (Some message) = 1

-- the exception is the last of so many objects that are made for it, and its wrapper the next one
abbrev pub in_raised : Program → State → (class objects : ℕ) → ℕ → Option (List Standing)
in_raised p s class objects r =
    if next_object s + objects - 1 == r then Some (standings_of s) else in_wrapper p (next_object s + objects) class (standings_of s) r

-- the frames that an exception notes which is raised, and that a wrapper notes of what is thrown: those of the state in which that is
abbrev pub by_throwing : Program → Outcome → ℕ → Option (List Standing)
by_throwing p (Raise class message s) r = in_raised p s class (length (exception_objects p s class message)) r
by_throwing p (Throw o s) r = in_wrapper p (next_object s) (object_at s o).class (standings_of s) r
by_throwing p _ r = None

-- ---- attempts

-- the frames that an attempt notes in an object, where it notes any
abbrev pub noted : Program → State → ℕ → Option (List Standing)
noted p s r = elim (by_constructor p (row p s) r) [ Some frames ↦ Some frames | None ↦ by_throwing p (outcome_carried_out p (row p s)) r ]

-- those that the first of at most n attempts from a state notes that notes any; none where none does
abbrev pub first_noted : Program → ℕ → State → ℕ → List Standing
first_noted p zero s r = []
first_noted p (suc n) s r =
    elim (noted p s r) [
      | Some frames ↦ frames
      | None ↦ elim (next p (outcome_carried_out p (row p s))) [ Goes later ↦ first_noted p n later r | Ends end ↦ [] ]
    ]

-- the same from the start of a run
abbrev pub noted_in : Program → ℕ → Run → ℕ → List Standing
noted_in p n (Live g) r = first_noted p n g.state r
noted_in p n (Over end g) r = []
