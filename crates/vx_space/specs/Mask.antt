-- Sets of at most 64 configurations as bits of a number: bit k stands for the configuration with number k.
use Rattle.std.specs.Prelude.{◌≡◌, ℕ, ◌+◌, ◌-◌, ◌*◌, ◌/◌, ◌%◌, ◌^◌, ◌<◌, Bool, false, List, [], ◌∷◌, if◌then◌else◌, zero, suc, nat_eq, nat_lt}
use Rattle.std.specs.Int.{bit_at}
use Rattle.vx_space.specs.Config.{value_of}
use Rattle.vx_space.specs.Sets.{Sets}

-- the configuration without its first value
abbrev pub tail_of : List Bool → List Bool
tail_of [] = []
tail_of (value ∷ rest) = rest

-- the number of a configuration: the sum of 2 ^ i over the options i that are on
abbrev pub number_of : ℕ → List Bool → ℕ
number_of zero c = 0
number_of (suc options) c = (if value_of c 0 then 1 else 0) + 2 * number_of options (tail_of c)

-- a number with bit i as given
abbrev pub with_bit : ℕ → ℕ → Bool → ℕ
with_bit k zero b = (if b then 1 else 0) + 2 * (k / 2)
with_bit k (suc i) b = k % 2 + 2 * with_bit (k / 2) i b

-- what a space of masks knows
abbrev pub masks : ℕ → Sets ℕ
masks options = record {
  options = options;
  never = 0;
  always = 2 ^ 2 ^ options - 1;
  is_known = λ mask. nat_lt mask (2 ^ 2 ^ options);
  test = λ mask c. nat_eq (bit_at mask (number_of options c)) 1;
  counts = false;
  count = 2;
  base = 2;
}

-- a mask whose bits below n are these
pub record HasBits (mask n : ℕ) (bit : ℕ → Bool) : Type 0 where
  pub below : mask < 2 ^ n
  pub bits : (k : ℕ) → k < n → bit_at mask k ≡ (if bit k then 1 else 0)
