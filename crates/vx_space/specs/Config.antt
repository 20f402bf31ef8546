-- Configurations: a list of one truth value per option. An option past the list's end is off.
use Rattle.std.specs.Prelude.{◌≡◌, ℕ, ◌<◌, Bool, false, List, [], ◌∷◌, zero, suc}

-- the value of an option
abbrev pub value_of : List Bool → ℕ → Bool
value_of [] i = false
value_of (value ∷ rest) zero = value
value_of (value ∷ rest) (suc i) = value_of rest i

-- the configuration with one option set to a value
abbrev pub with_option : List Bool → ℕ → Bool → List Bool
with_option [] zero b = b ∷ []
with_option [] (suc i) b = false ∷ with_option [] i b
with_option (value ∷ rest) zero b = b ∷ rest
with_option (value ∷ rest) (suc i) b = value ∷ with_option rest i b

-- the configurations agree on the options below n
abbrev pub AgreeBelow : ℕ → List Bool → List Bool → Type 0
AgreeBelow n c d = (i : ℕ) → i < n → value_of c i ≡ value_of d i
