-- Checks in a row.
use Rattle.std.specs.Prelude.{ℕ, ◌+◌, List, [], ◌∷◌, Bool, Result, Ok}
use Rattle.std.specs.List.{list_all}
use Rattle.vx_pool.specs.Reading.{Fault, ◌>>=◌, check}

-- the first check of a list that fails, each with its reason, at a place
abbrev pub first_failing : ℕ → List (Bool × ℕ) → Result (Unit {0}) Fault
first_failing at [] = Ok tt
first_failing at (c ∷ cs) = check c.0 at c.1 (first_failing at cs)

-- whether every check of a list is met
abbrev pub all_hold : List (Bool × ℕ) → Bool
all_hold checks = list_all (λ c. c.0) checks

-- the check of each item in turn; the items stand one after the other, and each takes so many bytes
unfoldable pub each : {A : Type 0} → (A → ℕ → Result (Unit {0}) Fault) → (A → ℕ) → List A → ℕ → Result (Unit {0}) Fault
each test size [] at = Ok tt
each test size (x ∷ xs) at = test x at >>= λ _. each test size xs (at + size x)
