-- What each typing of a method has to have: types that are found so far are such, so that where they cannot be merged there is no typing.
use Rattle.std.specs.Prelude.{Option, ℕ}
use Rattle.vx_class.specs.declared.class_file.Code.{Code}
use Rattle.vx_link.specs.declared.program.Program.{Program}
use Rattle.vx_types.specs.Fits.{StateFits}
use Rattle.vx_types.specs.Types.{VerState}
use Rattle.vx_verify.specs.Typing.{AreOperands, IsReached, IsTyping}

-- each typing covers a position with types that a state fits
abbrev pub IsForced : Program → (method : ℕ) → Code → (position : ℕ) → VerState → Type 0
IsForced p m code position s = (typing : ℕ → Option VerState) → IsTyping p m code typing → IsReached p typing position s

-- the least state that two states fit
pub record IsMerged (p : Program) (s t merged : VerState) : Type 0 where
  pub above_one : StateFits p s merged
  pub above_other : StateFits p t merged
  pub least : (u : VerState) → StateFits p s u → StateFits p t u → StateFits p merged u

-- no state that two states fit has operands that can be read
abbrev pub AreUnlike : Program → Code → VerState → VerState → Type 0
AreUnlike p code s t = (u : VerState) → StateFits p s u → StateFits p t u → ¬ AreOperands code u

-- no typing of a method's code is there
abbrev pub IsUntyped : Program → (method : ℕ) → Code → Type 0
IsUntyped p m code = (typing : ℕ → Option VerState) → ¬ IsTyping p m code typing
