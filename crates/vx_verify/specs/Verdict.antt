-- What a program's methods are found to be.
use Rattle.std.specs.List.{list_all}
use Rattle.std.specs.Prelude.{Bool, None, Option, Some, length, nat_lt, true, ℕ, ◌<◌, ◌≡◌}
use Rattle.vx_class.specs.declared.class_file.Code.{Code}
use Rattle.vx_java.specs.Ids.{HasClassNumbers}
use Rattle.vx_link.specs.declared.program.Program.{Program}
use Rattle.vx_types.specs.Ranked.{IsRanked}
use Rattle.vx_verify.specs.Typing.{IsTyped}
use Rattle.vx_verify.specs.declared.verdict.Verdict.{Verdict}
use Rattle.vx_verify.specs.declared.verdict.Verdict.TheVariants.{No, Yes}

-- a code has at most 65,535 bytes
abbrev pub has_short_code : Option Code → Bool
has_short_code None = true
has_short_code (Some code) = nat_lt (length code.bytes) 65536

-- what a linked program keeps to: numbers of 32 bits name its classes, its codes are short, and nothing is above itself
pub record CanBeTyped (p : Program) : Type 0 where
  pub classes : HasClassNumbers p
  pub codes : list_all (λ m. has_short_code m.code) p.methods ≡ true
  pub ranked : IsRanked p

-- each method has a typing
abbrev pub IsVerified : Program → Type 0
IsVerified p = (m : ℕ) → IsTyped p m

-- a method has none, and each method before it has one
pub record IsFirstUntyped (p : Program) (m : ℕ) : Type 0 where
  pub untyped : ¬ IsTyped p m
  pub earlier : (k : ℕ) → k < m → IsTyped p k

-- a verdict is yes where each method has a typing, and else names the first that has none
abbrev pub IsVerdict : Program → Verdict → Type 0
IsVerdict p Yes = IsVerified p
IsVerdict p (No m) = IsFirstUntyped p m.0
