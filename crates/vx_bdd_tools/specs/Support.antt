-- The options on which a set depends.
use Rattle.std.specs.Prelude.{ℕ, Bool, List, Contains}
use Rattle.std.specs.List.Sorted.{IsStrictlyIncreasing}
use Rattle.vx_space.specs.Under.{Depends}

-- the list has just the options on which the set depends, ascending
pub record IsSupport (set : List Bool → Bool) (options : List ℕ) : Type 0 where
  pub ascending : IsStrictlyIncreasing options
  pub each : (i : ℕ) → Contains options i → Depends set i
  pub all : (i : ℕ) → Depends set i → Contains options i
