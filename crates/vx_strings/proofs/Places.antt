-- Places in texts that are ints, and differences of texts.
use Rattle.std.proofs.Common.{◌≡◌, ℕ, ℤ, ◌+◌, ◌<◌, ◌≤◌, ◌^◌, suc, Bool, true, false, List, [], ◌∷◌, sym, ◌∙◌, ap, arith, get_or, length, pos}
use Rattle.std.proofs.lemmas.Int.{ints}
use Rattle.std.specs.Int.{w32, w64}
use Rattle.std.specs.List.{starts_with}
use Rattle.std.specs.Prelude.{Some, min, nat_eq, negsuc, ◌==◌, ◌-ℤ◌, ◌≤ℤ◌}
use mir.Val.{SFits}
use Rattle.vx_java.specs.Texts.{place_of, place_of_point, text_difference}
use Rattle.vx_units.specs.Places.{in_texts}

-- a text begins in another one no later than at its end
place_within : (at : ℕ) (needle units : List ℕ) (n : ℕ) → place_of at needle units ≡ pos n → n ≤ at + length units
place_within at needle [] n e = by (length needle == 0) e
  where
    by : (b : Bool) → elim b [ true ↦ pos at | false ↦ negsuc 0 ] ≡ pos n → n ≤ at + 0
    by true f =
        let same : at ≡ n = cc in
        omega (arith, same)
    by false f = cc f
place_within at needle (u ∷ units) n e = by (starts_with nat_eq (u ∷ units) needle) (λ f. place_within (suc at) needle units n f) e
  where
    by : (b : Bool) → (place_of (suc at) needle units ≡ pos n → n ≤ suc at + length units) → elim b [ true ↦ pos at | false ↦ place_of (suc at) needle units ] ≡ pos n → n ≤ at + suc (length units)
    by true later f =
        let same : at ≡ n = cc in
        omega (arith, same)
    by false later f = omega (arith, later f)

-- a place that is found in a text with fewer than 2^31 units stays as it is
pub place_kept : (needle units : List ℕ) (place : ℕ) → in_texts (Some place) ≡ place_of 0 needle units → length units < 2 ^ 31 → pos (min place 2147483647) ≡ place_of 0 needle units
place_kept needle units place e short =
    let within = place_within 0 needle units place (sym e) in
    let small : min place 2147483647 ≡ place = omega (arith, within, short) in
    ap pos small ∙ e

pub point_kept : (units needle : List ℕ) (place : ℕ) → in_texts (Some place) ≡ place_of_point units needle → length units < 2 ^ 31 → pos (min place 2147483647) ≡ place_of_point units needle
point_kept units [] place e short = cc e
point_kept units (u ∷ us) place e short = place_kept (u ∷ us) units place e short

-- ---- differences

-- each unit has sixteen bits
abbrev pub AreUnits : List ℕ → Type 0
AreUnits units = (k : ℕ) → get_or units k 0 < 65536

-- a number is an int
abbrev pub IsInt : ℤ → Type 0
IsInt z = (negsuc 2147483647 ≤ℤ z) × (z ≤ℤ pos 2147483647)

-- of two numbers
natural_difference : (m n : ℕ) → m < 2147483648 → n < 2147483648 → IsInt (pos m -ℤ pos n)
natural_difference m n l k = (omega (arith, ints), omega (arith, ints))

-- of two texts that ints count
pub int_difference : (first second : List ℕ) → AreUnits first → AreUnits second → length first < 2147483648 → length second < 2147483648 → IsInt (text_difference first second)
int_difference [] second f g l k = natural_difference 0 (length second) (omega arith) k
int_difference (a ∷ first) [] f g l k = (omega (arith, ints), omega (arith, ints, l))
int_difference (a ∷ first) (b ∷ second) f g l k = by (a == b) (int_difference first second (λ i. f (suc i)) (λ i. g (suc i)) (omega (arith, l)) (omega (arith, k))) (natural_difference a b (omega (arith, f 0)) (omega (arith, g 0)))
  where
    by : (t : Bool) → IsInt (text_difference first second) → IsInt (pos a -ℤ pos b) → IsInt (elim t [ true ↦ text_difference first second | false ↦ pos a -ℤ pos b ])
    by true same other = same
    by false same other = other

-- it is one of 32 bits
pub int_fits : (z : ℤ) → IsInt z → SFits w32 z
int_fits (pos n) is = record { sfits = omega (arith, ints, is.1) }
int_fits (negsuc n) is = record { sfits = omega (arith, ints, is.0) }

-- and one of 64 bits
pub long_fits : (z : ℤ) → IsInt z → SFits w64 z
long_fits (pos n) is = record { sfits = omega (arith, ints, is.1) }
long_fits (negsuc n) is = record { sfits = omega (arith, ints, is.0) }
