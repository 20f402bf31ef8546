-- The frames that a trace shows of those that a throwable has noted (the class library of Java SE 7: Throwable.getStackTrace; own where the machine has frames that a Java machine doesn't have).
use Rattle.std.specs.Prelude.{Bool, List, None, Option, Some, [], bytes_eq, codes, false, if◌then◌else◌, length, not, true, ℕ, ◌&&◌, ◌++◌, ◌==◌, ◌∷◌}
use Rattle.vx_link.specs.Assignability.{assignable}
use Rattle.vx_link.specs.Parts.{method_at}
use Rattle.vx_link.specs.declared.program.Program.{Program}
use Rattle.vx_noted.specs.Noted.{is_call}
use Rattle.vx_noted.specs.declared.frames.Standing.{Standing}
use Rattle.vx_value.specs.declared.key.Kind.{Kind}
use Rattle.vx_value.specs.declared.key.Kind.TheVariants.{Wait}

-- whether a frame runs a constructor of a class or of one above it
abbrev pub constructs : Program → (class : ℕ) → Standing → Bool
constructs p class f =
    bytes_eq (method_at p f.method.0).name (codes "<init>") && assignable p class (method_at p f.method.0).class.0

-- without the frames on top that run constructors of the throwable itself
abbrev pub behind_constructors : Program → (class : ℕ) → List Standing → List Standing
behind_constructors p class [] = []
behind_constructors p class (f ∷ below) = if constructs p class f then behind_constructors p class below else f ∷ below

abbrev pub is_wait : Kind → Bool
is_wait Wait = true
is_wait _ = false

-- whether a frame stands right below the initialisation of its class
abbrev pub is_begun : Program → Option Standing → Standing → Bool
is_begun p None f = false
is_begun p (Some above) f = not (is_call above.kind) && (method_at p above.method.0).class.0 == (method_at p f.method.0).class.0

-- a frame that waits is none of a Java machine; and the last one is main, which is called only once its class is initialised
abbrev pub is_shown : Program → Option Standing → Standing → (last : Bool) → Bool
is_shown p above f last = not (is_wait f.kind) && not (last && is_begun p above f)

abbrev pub if_shown : Bool → Standing → List Standing
if_shown told f = if told then f ∷ [] else []

-- the frames that are shown, below a frame
abbrev pub shown_below : Program → Option Standing → List Standing → List Standing
shown_below p above [] = []
shown_below p above (f ∷ below) = if_shown (is_shown p above f (length below == 0)) f ++ shown_below p (Some f) below

-- of a throwable of a class
abbrev pub shown : Program → (class : ℕ) → List Standing → List Standing
shown p class frames = shown_below p None (behind_constructors p class frames)
