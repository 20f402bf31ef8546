-- Where the frames of a run stand, and what it raises and throws (JVMS 2.6, 2.10, 4.9).
use Rattle.std.specs.List.{list_all}
use Rattle.std.specs.Prelude.{Bool, None, Option, Some, false, is_some, length, true, ℕ, ◌==◌, ◌||◌, ◌≡◌}
use Rattle.vx_class.specs.declared.class_file.Code.{Code}
use Rattle.vx_pool.specs.Instructions.{is_start}
use Rattle.vx_java.specs.Machine.{Begin, Ended, Frame, Go, Native, Outcome, Raise, State, Throw, Write, object_at}
use Rattle.vx_java.specs.Step.{Live, Over, Run, frames_of}
use Rattle.vx_jump_targets.specs.Placed.{starts_in}
use Rattle.vx_link.specs.Assignability.{assignable}
use Rattle.vx_link.specs.ClassNames.{core_class}
use Rattle.vx_link.specs.Parts.{method_at}
use Rattle.vx_link.specs.declared.program.Program.{Program}

-- ---- frames

-- an instruction of the code begins there
abbrev pub is_instruction : Option Code → ℕ → Bool
is_instruction None at = false
is_instruction (Some code) at = is_start (starts_in code) at

-- the code ends there
abbrev pub is_code_end : Option Code → ℕ → Bool
is_code_end None at = false
is_code_end (Some code) at = at == length code.bytes

abbrev pub has_code : Program → Frame → Bool
has_code p f = is_some (method_at p f.method).code

-- a frame stands at an instruction of its method, or where the method's code ends
abbrev pub is_at_instruction : Program → Frame → Bool
is_at_instruction p f = is_instruction (method_at p f.method).code f.position

abbrev pub is_at_end : Program → Frame → Bool
is_at_end p f = is_code_end (method_at p f.method).code f.position

-- ---- states

-- each frame's method has code; each frame stands at an instruction of it, but the frame on top may stand at its end
pub record HasPlacedFrames (p : Program) (s : State) : Type 0 where
  pub codes : list_all (has_code p) (frames_of s) ≡ true
  pub top : (is_at_instruction p s.top || is_at_end p s.top) ≡ true
  pub callers : list_all (is_at_instruction p) s.callers ≡ true

-- the state that a run has come to, or in which its last attempt was made
abbrev pub last_state : Run → State
last_state (Live g) = g.state
last_state (Over e g) = g.state

-- ---- outcomes

-- Throwable or a class below it
abbrev pub is_throwable : Program → ℕ → Bool
is_throwable p class = assignable p class (core_class p "java/lang/Throwable")

-- what is raised is such a class, and what is thrown an object of such a class
abbrev pub IsThrowing : Program → Outcome → Type 0
IsThrowing p (Raise class message s) = is_throwable p class ≡ true
IsThrowing p (Throw object s) = is_throwable p (object_at s object).class ≡ true
IsThrowing p _ = Unit {0}

-- and what goes on does so in such a state
abbrev pub GoesOnPlaced : Program → Outcome → Type 0
GoesOnPlaced p (Go s) = HasPlacedFrames p s
GoesOnPlaced p (Raise class message s) = HasPlacedFrames p s
GoesOnPlaced p (Throw object s) = HasPlacedFrames p s
GoesOnPlaced p (Begin class s) = HasPlacedFrames p s
GoesOnPlaced p (Native method s) = HasPlacedFrames p s
GoesOnPlaced p (Write stream units s) = HasPlacedFrames p s
GoesOnPlaced p (Ended end) = Unit {0}
