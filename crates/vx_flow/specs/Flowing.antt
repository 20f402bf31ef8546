-- What an instruction makes of the types before it, as a caller names them.
use Rattle.std.specs.Prelude.{None, Option, Some, if◌then◌else◌, nat_le, ℕ, ◌≡◌}
use Rattle.vx_class.specs.declared.class_file.Code.{Code}
use Rattle.vx_flow.specs.declared.types.Flow.{Flow}
use Rattle.vx_flow.specs.declared.types.Flow.TheVariants as named
use Rattle.vx_flow.specs.declared.types.VerState.{VerState}
use Rattle.vx_link.specs.declared.program.Program.{Program}
use Rattle.vx_types.specs.Flow.{Next, Refuses, flow_of, stack_size}
use Rattle.vx_types.specs.Flow.{Flow as PlainFlow}
use Rattle.vx_types.specs.Types.{VerState as PlainState}
use Rattle.vx_verify.specs.Typing.{IsTyping}

-- ---- the types that a caller names

abbrev pub plain : VerState → PlainState
plain s = record { locals = s.locals; operands = s.operands }

abbrev pub plain_flow : Flow → PlainFlow
plain_flow named.Refuses = Refuses
plain_flow (named.Next s targets) = Next (plain s) targets

-- ---- an instruction

-- the operands fit in the method's greatest stack before the instruction too
abbrev pub flow_at : Program → (method : ℕ) → Code → (at : ℕ) → PlainState → PlainFlow
flow_at p m code at before = if nat_le (stack_size before.operands) code.max_stack then flow_of p m code at before else Refuses

-- a method without code has no instruction
abbrev pub flow_in : Program → (method : ℕ) → Option Code → (at : ℕ) → PlainState → PlainFlow
flow_in p m None at before = Refuses
flow_in p m (Some code) at before = flow_at p m code at before

-- ---- typings

-- at each position that a typing covers, an instruction makes of the types before it what the typing's instruction makes of them
abbrev pub TypingsFlow : Type 0
TypingsFlow = (p : Program) (m : ℕ) (code : Code) (typing : ℕ → Option PlainState) (at : ℕ) (s : PlainState) → IsTyping p m code typing → typing at ≡ Some s → flow_at p m code at s ≡ flow_of p m code at s
