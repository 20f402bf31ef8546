-- Masks are a lawful space.
use Rattle.std.specs.Prelude.{◌≡◌, ℕ, ◌-◌, ◌*◌, ◌/◌, ◌%◌, ◌^◌, ◌<◌, ◌≤◌, Bool, true, false, List, [], ◌∷◌, if◌then◌else◌, zero, suc, nat_eq, nat_lt, refl}
use Rattle.std.proofs.Common.{sym, ◌∙◌, ap, arith}
use Rattle.std.specs.Int.{bit_at}
use Rattle.std.proofs.lemmas.Bool.Decides.{nat_tests}
use Rattle.std.proofs.lemmas.Nat.{pow_pos}
use Rattle.std.proofs.lemmas.Nat.Bits.{bit_at-zero, bit_at-lt, bit_at_ones, same_from_bits_below}
use Rattle.vx_space.specs.Config.{value_of, AgreeBelow}
use Rattle.vx_space.specs.Sets.{IsLawful}
use Rattle.vx_space.specs.Mask.{tail_of, number_of, masks}

pub value_of-tail : (c : List Bool) (i : ℕ) → value_of (tail_of c) i ≡ value_of c (suc i)
value_of-tail [] i = refl
value_of-tail (v ∷ c) i = refl

pub bit_small : (b : Bool) → (if b then 1 else 0) < 2
bit_small true = omega arith
bit_small false = omega arith

pub pow_twice : (n : ℕ) → 2 ^ suc n ≡ 2 * 2 ^ n
pow_twice n = grind arith

pub number_of-lt : (n : ℕ) (c : List Bool) → number_of n c < 2 ^ n
number_of-lt zero c = omega arith
number_of-lt (suc n) c = omega (arith, bit_small (value_of c 0), number_of-lt n (tail_of c), pow_twice n)

-- the configuration with a number
abbrev pub config_of : ℕ → ℕ → List Bool
config_of zero k = []
config_of (suc n) k = nat_eq (k % 2) 1 ∷ config_of n (k / 2)

one_bit : (m : ℕ) → m < 2 → (if nat_eq m 1 then 1 else 0) ≡ m
one_bit zero l = refl
one_bit (suc zero) l = refl
one_bit (suc (suc m)) l = absurd (omega (arith, l))

pub number_of-config_of : (n k : ℕ) → k < 2 ^ n → number_of n (config_of n k) ≡ k
number_of-config_of zero k l = omega (arith, l)
number_of-config_of (suc n) k l =
    let half : k / 2 < 2 ^ n = omega (arith, l, pow_twice n) in
    let small : k % 2 < 2 = omega arith in
    omega (arith, number_of-config_of n (k / 2) half, one_bit (k % 2) small)

pub number_of-agree : (n : ℕ) (c d : List Bool) → AgreeBelow n c d → number_of n c ≡ number_of n d
number_of-agree zero c d h = refl
number_of-agree (suc n) c d h =
    let rest = number_of-agree n (tail_of c) (tail_of d) (λ i l. value_of-tail c i ∙ h (suc i) (omega (arith, l)) ∙ sym (value_of-tail d i)) in
    rw (h 0 (omega arith), rest) refl

-- a bit that is 1 just where another is, is the same
pub same_bits : (p q : ℕ) → p < 2 → q < 2 → nat_eq p 1 ≡ nat_eq q 1 → p ≡ q
same_bits zero zero l m e = refl
same_bits zero (suc zero) l m e = cc
same_bits (suc zero) zero l m e = cc
same_bits (suc zero) (suc zero) l m e = refl
same_bits (suc (suc p)) q l m e = absurd (omega (arith, l))
same_bits p (suc (suc q)) l m e = absurd (omega (arith, m))

pub known_lt : (m n : ℕ) → nat_lt m n ≡ true → m < n
known_lt m n e = grind (arith, nat_tests)

pub lt_known : (m n : ℕ) → m < n → nat_lt m n ≡ true
lt_known m n e = grind (arith, nat_tests)

pub lawful_masks : (options : ℕ) → options ≤ 6 → IsLawful (masks options)
lawful_masks options few = record {
  at_most_64 = omega (arith, few);
  never_known = lt_known 0 (2 ^ 2 ^ options) (pow_pos (2 ^ options));
  never_test = λ c. rw (bit_at-zero (number_of options c)) refl;
  always_known = lt_known (2 ^ 2 ^ options - 1) (2 ^ 2 ^ options) (omega (arith, pow_pos (2 ^ options)));
  always_test = λ c. rw (bit_at_ones (2 ^ options) (number_of options c) (number_of-lt options c)) refl;
  equal_sets = λ a b s t h. same_from_bits_below (2 ^ options) a b (known_lt a (2 ^ 2 ^ options) s) (known_lt b (2 ^ 2 ^ options) t) (λ k l.
      same_bits (bit_at a k) (bit_at b k) (bit_at-lt a k) (bit_at-lt b k) (rw (number_of-config_of options k l) at (h (config_of options k))));
  options_alone = λ a c d s h. ap (λ k. nat_eq (bit_at a k) 1) (number_of-agree options c d h);
  counted = λ e. cc;
}
