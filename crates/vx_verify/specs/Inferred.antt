-- What is known while types are inferred: at each position that was come to, types that each typing has there; a position is marked while its
-- instruction hasn't been looked at with them.
use Rattle.std.specs.Prelude.{All, Bool, Option, Some, false, true, ℕ, ◌≡◌}
use Rattle.vx_class.specs.declared.class_file.Code.{Code}
use Rattle.vx_java.specs.Selection.{covers}
use Rattle.vx_link.specs.declared.program.Program.{Program}
use Rattle.vx_types.specs.Flow.{flow_of}
use Rattle.vx_types.specs.Types.{VerState}
use Rattle.vx_verify.specs.Forced.{IsForced}
use Rattle.vx_verify.specs.Typing.{AreOperands, IsReached, LeadsOn, handler_state, start_state}

-- the instruction of a position leads on with a state, and the handlers that cover it are reached
pub record IsClosedAt (p : Program) (m : ℕ) (code : Code) (known : ℕ → Option VerState) (position : ℕ) (s : VerState) : Type 0 where
  pub leads : LeadsOn p known (flow_of p m code position s)
  pub handlers : All (λ row. covers row position ≡ true → IsReached p known row.handler (handler_state p m row s)) code.catches

pub record AreInferred (p : Program) (m : ℕ) (code : Code) (known : ℕ → Option VerState) (marked : ℕ → Bool) : Type 0 where
  pub start : IsReached p known 0 (start_state p m code)
  pub operands : (position : ℕ) (s : VerState) → known position ≡ Some s → AreOperands code s
  pub forced : (position : ℕ) (s : VerState) → known position ≡ Some s → IsForced p m code position s
  pub closed : (position : ℕ) (s : VerState) → known position ≡ Some s → marked position ≡ false → IsClosedAt p m code known position s

-- what was known is known, or types above it
abbrev pub AreRaised : Program → (known later : ℕ → Option VerState) → Type 0
AreRaised p known later = (position : ℕ) (s : VerState) → known position ≡ Some s → IsReached p later position s
