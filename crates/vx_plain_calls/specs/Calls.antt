-- How the body of a method is carried out.
use Rattle.std.specs.Prelude.{None, Option, Some, List, nat_lt, ℕ, ◌==◌, true, false}
use Rattle.vx_class.specs.declared.class_file.Code.{Code}
use Rattle.vx_java.specs.Calls.{state_in_callee}
use Rattle.vx_java.specs.Machine.{Go, Here, Outcome, Value, depth, frame_bound, raise, when}
use Rattle.vx_link.specs.declared.program.LinkedMethod.{LinkedMethod}
use Rattle.vx_plain_calls.specs.declared.entering.Body.{Body}
use Rattle.vx_plain_calls.specs.declared.entering.Body.TheVariants as body

abbrev pub body_by : (native : ℕ) → Option Code → Body
body_by native (Some code) = body.Code
body_by native None = elim (native == 0) [ true ↦ body.Missing | false ↦ body.Native ]

abbrev pub body_of : LinkedMethod → Body
body_of m = body_by m.native m.code

-- a frame of a method with code, unless there are too many
abbrev pub entered : Here → ℕ → List Value → List Value → Outcome
entered h m values rest = when (nat_lt (depth h.state) frame_bound) (Go (state_in_callee h m values rest)) (raise h "java/lang/StackOverflowError")
