-- How two stacks of operands are merged: from the top down to what they share, and up again.
use Rattle.std.specs.Prelude.{All, List, None, Option, Some, length, map, min, ℕ, ◌++◌, ◌+◌, ◌-◌, ◌<◌, ◌^◌, ◌∷◌, ◌≡◌}
use Rattle.vx_link.specs.declared.program.Program.{Program}
use Rattle.vx_types.specs.Common.{IsCommon}
use Rattle.vx_types.specs.declared.types.VerType.{VerType}
use Rattle.vx_types.specs.declared.types.VerType.TheVariants.{Long, Top}
use Rattle.vx_verify.specs.States.{AreCommon, IsLater, IsStack, operands_at, stack_at, type_at, types_at}
use Rattle.vx_verify.specs.declared.store.Apart.{Apart}
use Rattle.vx_verify.specs.declared.store.Parted.{Parted}
use Rattle.vx_verify.specs.declared.store.Store.{Store}

-- the words of operands with another one on top
abbrev pub words_with : VerType → (under : ℕ) → ℕ
words_with Top under = 2 ^ 32 - 1
words_with Long under = min (under + 2) (2 ^ 32 - 1)
words_with t under = min (under + 1) (2 ^ 32 - 1)

-- ---- what comes apart

pub record IsApart (s : Store) (a : Apart) : Type 0 where
  pub stack : IsStack s a.stack
  pub under : IsStack s a.under
  pub top : a.top < length s.types.items
  pub another : a.another < length s.types.items
  pub is : stack_at s a.stack ≡ a.top ∷ stack_at s a.under

abbrev pub tops : List Apart → List ℕ
tops these = map (λ a. a.top) these

abbrev pub others : List Apart → List ℕ
others these = map (λ a. a.another) these

-- two stacks are what came apart, on what is left of each
pub record AreParted (s : Store) (one other : ℕ) (apart : List Apart) (left right : ℕ) : Type 0 where
  pub these : All (IsApart s) apart
  pub left_stack : IsStack s left
  pub right_stack : IsStack s right
  pub first : stack_at s one ≡ tops apart ++ stack_at s left
  pub second : stack_at s other ≡ others apart ++ stack_at s right

-- the stacks have other lengths, or come apart down to what they share
abbrev pub ArePartedStacks : Store → (one other : ℕ) → Option Parted → Type 0
ArePartedStacks s one other None = ¬ (length (stack_at s one) ≡ length (stack_at s other))
ArePartedStacks s one other (Some parted) = AreParted s one other parted.apart.items parted.shared parted.shared

-- ---- what is put together

-- what two operands have in common on others
pub record IsJoined (p : Program) (s t : Store) (both : Apart) (merged stack : ℕ) : Type 0 where
  pub later : IsLater s t
  pub within : IsStack t stack
  pub top : VerType
  pub common : IsCommon p (type_at s both.top) (type_at s both.another) top
  pub is : operands_at t stack ≡ top ∷ operands_at s merged

pub record AreJoined (p : Program) (s t : Store) (apart : List Apart) (shared stack : ℕ) : Type 0 where
  pub later : IsLater s t
  pub within : IsStack t stack
  pub common : AreCommon p (types_at s (tops apart) ++ operands_at s shared) (types_at s (others apart) ++ operands_at s shared) (operands_at t stack)
