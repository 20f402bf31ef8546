-- The bits of masks.
use Rattle.std.proofs.Common.{◌≡◌, ◌≢◌, ◌⊎◌, ℕ, add-one, ◌+◌, ◌-◌, ◌*◌, ◌/◌, ◌%◌, ◌^◌, ◌<◌, ◌≤◌, Bool, true, false, List, [], ◌∷◌, refl, sym, ◌∙◌, ap, arith, zero, suc, inl, inr}
use Rattle.std.specs.Prelude.{if◌then◌else◌, nat_eq, nat_lt, ◌&&◌, ◌||◌, not, bit_and, bit_or, min, max}
use Rattle.std.specs.Int.{bit_at, bit_not, w64, w32}
use Rattle.std.proofs.lemmas.Nat.{pow_pos, or_lt, and_le_l, one_shl}
use Rattle.std.proofs.lemmas.Bool.{cases_eq}
use Rattle.std.proofs.lemmas.Nat.Bits.{bit_at-suc, bit_at-lt, bit_at_lowest, bit_at_and, bit_at_or, bit_at_not, bit_at_set_same, bit_at_set_other, bit_at_clear_same, bit_at_clear_other, same_from_bits, same_from_bits_below}
use Rattle.vx_space.specs.Config.{value_of, with_option}
use Rattle.vx_space.specs.Under.{IsFree, fixed}
use Rattle.vx_space.specs.Sets.{IsSet, IsLawful, IsTop}
use Rattle.vx_space.proofs.Differences.{some_difference}
use Rattle.vx_space.specs.Mask.{tail_of, number_of, with_bit, masks, HasBits}
use Rattle.vx_space.specs.MaskLaws.{value_of-tail, number_of-lt, lawful_masks, bit_small, known_lt, lt_known, pow_twice}
use Rattle.vx_space.proofs.Configs.{value_of-other, value_of-same}

tail-with_option : (c : List Bool) (i : ℕ) (b : Bool) → tail_of (with_option c (suc i) b) ≡ with_option (tail_of c) i b
tail-with_option [] i b = refl
tail-with_option (v ∷ c) i b = refl

tail-with_first : (c : List Bool) (b : Bool) → tail_of (with_option c 0 b) ≡ tail_of c
tail-with_first [] b = refl
tail-with_first (v ∷ c) b = refl

first-with_first : (c : List Bool) (b : Bool) → value_of (with_option c 0 b) 0 ≡ b
first-with_first [] b = refl
first-with_first (v ∷ c) b = refl

first-with_later : (c : List Bool) (i : ℕ) (b : Bool) → value_of (with_option c (suc i) b) 0 ≡ value_of c 0
first-with_later [] i b = refl
first-with_later (v ∷ c) i b = refl

half_of : (p m : ℕ) → p < 2 → (p + 2 * m) / 2 ≡ m
half_of p m l = omega (arith, l)

rest_of : (p m : ℕ) → p < 2 → (p + 2 * m) % 2 ≡ p
rest_of p m l = omega (arith, l)

-- an option set in a configuration sets a bit of its number
pub number_of-with_option : (n : ℕ) (c : List Bool) (i : ℕ) (b : Bool) → i < n → number_of n (with_option c i b) ≡ with_bit (number_of n c) i b
number_of-with_option zero c i b l = absurd (omega (arith, l))
number_of-with_option (suc n) c zero b l = rw (first-with_first c b, tail-with_first c b, half_of (if value_of c 0 then 1 else 0) (number_of n (tail_of c)) (bit_small (value_of c 0))) refl
number_of-with_option (suc n) c (suc i) b l =
    let less : i < n = omega (arith, l) in
    rw (first-with_later c i b, tail-with_option c i b, number_of-with_option n (tail_of c) i b less, rest_of (if value_of c 0 then 1 else 0) (number_of n (tail_of c)) (bit_small (value_of c 0)), half_of (if value_of c 0 then 1 else 0) (number_of n (tail_of c)) (bit_small (value_of c 0))) refl

-- the bits of a number are the values of the options
pub bit_at-number_of : (n : ℕ) (c : List Bool) (i : ℕ) → i < n → bit_at (number_of n c) i ≡ (if value_of c i then 1 else 0)
bit_at-number_of zero c i l = absurd (omega (arith, l))
bit_at-number_of (suc n) c zero l = bit_at_lowest (number_of (suc n) c) ∙ rest_of (if value_of c 0 then 1 else 0) (number_of n (tail_of c)) (bit_small (value_of c 0))
bit_at-number_of (suc n) c (suc i) l =
    let less : i < n = omega (arith, l) in
    bit_at-suc (number_of (suc n) c) i ∙ ap (λ k. bit_at k i) (half_of (if value_of c 0 then 1 else 0) (number_of n (tail_of c)) (bit_small (value_of c 0))) ∙ bit_at-number_of n (tail_of c) i less ∙ ap (λ v. if v then 1 else 0) (value_of-tail c i)

bit_twice : (v : Bool) (n : ℕ) → (if v then 2 ^ suc n else 0) ≡ 2 * (if v then 2 ^ n else 0)
bit_twice true n = pow_twice n
bit_twice false n = refl

-- the number of the first values and one more
pub number_of-more : (n : ℕ) (c : List Bool) → number_of (suc n) c ≡ number_of n c + (if value_of c n then 2 ^ n else 0)
number_of-more zero c = grind arith
number_of-more (suc n) c =
    let more = number_of-more n (tail_of c) in
    let same : (if value_of (tail_of c) n then 2 ^ n else 0) ≡ (if value_of c (suc n) then 2 ^ n else 0) = ap (λ v. if v then 2 ^ n else 0) (value_of-tail c n) in
    omega (arith, more, same, bit_twice (value_of c (suc n)) n)

test_and : (x y : ℕ) → x < 2 → y < 2 → nat_eq (min x y) 1 ≡ (nat_eq x 1 && nat_eq y 1)
test_and zero zero l m = refl
test_and zero (suc zero) l m = refl
test_and (suc zero) zero l m = refl
test_and (suc zero) (suc zero) l m = refl
test_and (suc (suc x)) y l m = absurd (omega (arith, l))
test_and x (suc (suc y)) l m = absurd (omega (arith, m))

test_or : (x y : ℕ) → x < 2 → y < 2 → nat_eq (max x y) 1 ≡ (nat_eq x 1 || nat_eq y 1)
test_or zero zero l m = refl
test_or zero (suc zero) l m = refl
test_or (suc zero) zero l m = refl
test_or (suc zero) (suc zero) l m = refl
test_or (suc (suc x)) y l m = absurd (omega (arith, l))
test_or x (suc (suc y)) l m = absurd (omega (arith, m))

test_not : (x : ℕ) → x < 2 → nat_eq (1 - x) 1 ≡ not (nat_eq x 1)
test_not zero l = refl
test_not (suc zero) l = refl
test_not (suc (suc x)) l = absurd (omega (arith, l))

pub IsSet-and : (options a b : ℕ) → nat_lt a (2 ^ 2 ^ options) ≡ true → IsSet (masks options) (bit_and a b) (λ c. (masks options).test a c && (masks options).test b c)
IsSet-and options a b s = record {
  known = lt_known (bit_and a b) (2 ^ 2 ^ options) (omega (arith, and_le_l a b, known_lt a (2 ^ 2 ^ options) s));
  test = λ c. ap (λ x. nat_eq x 1) (bit_at_and a b (number_of options c)) ∙ test_and (bit_at a (number_of options c)) (bit_at b (number_of options c)) (bit_at-lt a (number_of options c)) (bit_at-lt b (number_of options c));
}

pub IsSet-or : (options a b : ℕ) → nat_lt a (2 ^ 2 ^ options) ≡ true → nat_lt b (2 ^ 2 ^ options) ≡ true → IsSet (masks options) (bit_or a b) (λ c. (masks options).test a c || (masks options).test b c)
IsSet-or options a b s t = record {
  known = lt_known (bit_or a b) (2 ^ 2 ^ options) (or_lt (2 ^ options) a b (known_lt a (2 ^ 2 ^ options) s) (known_lt b (2 ^ 2 ^ options) t));
  test = λ c. ap (λ x. nat_eq x 1) (bit_at_or a b (number_of options c)) ∙ test_or (bit_at a (number_of options c)) (bit_at b (number_of options c)) (bit_at-lt a (number_of options c)) (bit_at-lt b (number_of options c));
}

pow-le : (n : ℕ) → n ≤ 6 → 2 ^ n ≤ 64
pow-le zero l = omega arith
pow-le (suc zero) l = omega arith
pow-le (suc (suc zero)) l = omega arith
pow-le (suc (suc (suc zero))) l = omega arith
pow-le (suc (suc (suc (suc zero)))) l = omega arith
pow-le (suc (suc (suc (suc (suc zero))))) l = omega arith
pow-le (suc (suc (suc (suc (suc (suc zero)))))) l = omega arith
pow-le (suc (suc (suc (suc (suc (suc (suc n))))))) l = absurd (omega (arith, l))

pub IsSet-minus : (options a b : ℕ) → options ≤ 6 → b < 2 ^ 64 → nat_lt a (2 ^ 2 ^ options) ≡ true → IsSet (masks options) (bit_and a (bit_not w64 b)) (λ c. (masks options).test a c && not ((masks options).test b c))
IsSet-minus options a b few small s = record {
  known = lt_known (bit_and a (bit_not w64 b)) (2 ^ 2 ^ options) (omega (arith, and_le_l a (bit_not w64 b), known_lt a (2 ^ 2 ^ options) s));
  test = λ c.
      let k = number_of options c in
      let low : k < 64 = omega (arith, number_of-lt options c, pow-le options few) in
      ap (λ x. nat_eq x 1) (bit_at_and a (bit_not w64 b) k) ∙ test_and (bit_at a k) (bit_at (bit_not w64 b) k) (bit_at-lt a k) (bit_at-lt (bit_not w64 b) k)
      ∙ ap (λ x. (nat_eq (bit_at a k) 1) && nat_eq x 1) (bit_at_not w64 b k small low) ∙ ap (λ t. (nat_eq (bit_at a k) 1) && t) (test_not (bit_at b k) (bit_at-lt b k));
}

pub with_bit-lt : (n k i : ℕ) (b : Bool) → k < 2 ^ n → i < n → with_bit k i b < 2 ^ n
with_bit-lt zero k i b l m = absurd (omega (arith, m))
with_bit-lt (suc n) k zero b l m = omega (arith, l, bit_small b, pow_twice n)
with_bit-lt (suc n) k (suc i) b l m =
    let half : k / 2 < 2 ^ n = omega (arith, l, pow_twice n) in
    let less : i < n = omega (arith, m) in
    omega (arith, with_bit-lt n (k / 2) i b half less, pow_twice n)

small_rest : (k : ℕ) → k % 2 < 2
small_rest k = omega arith

pub bit_at-with_bit_same : (k i : ℕ) (b : Bool) → bit_at (with_bit k i b) i ≡ (if b then 1 else 0)
bit_at-with_bit_same k zero b = bit_at_lowest (with_bit k 0 b) ∙ rest_of (if b then 1 else 0) (k / 2) (bit_small b)
bit_at-with_bit_same k (suc i) b = bit_at-suc (with_bit k (suc i) b) i ∙ ap (λ x. bit_at x i) (half_of (k % 2) (with_bit (k / 2) i b) (small_rest k)) ∙ bit_at-with_bit_same (k / 2) i b

pub bit_at-with_bit_other : (k i j : ℕ) (b : Bool) → j ≢ i → bit_at (with_bit k i b) j ≡ bit_at k j
bit_at-with_bit_other k zero zero b n = absurd (n refl)
bit_at-with_bit_other k zero (suc j) b n = bit_at-suc (with_bit k 0 b) j ∙ ap (λ x. bit_at x j) (half_of (if b then 1 else 0) (k / 2) (bit_small b)) ∙ sym (bit_at-suc k j)
bit_at-with_bit_other k (suc i) zero b n = bit_at_lowest (with_bit k (suc i) b) ∙ rest_of (k % 2) (with_bit (k / 2) i b) (small_rest k) ∙ sym (bit_at_lowest k)
bit_at-with_bit_other k (suc i) (suc j) b n = bit_at-suc (with_bit k (suc i) b) j ∙ ap (λ x. bit_at x j) (half_of (k % 2) (with_bit (k / 2) i b) (small_rest k)) ∙ bit_at-with_bit_other (k / 2) i j b (λ e. n (ap suc e)) ∙ sym (bit_at-suc k j)

pub with_bit-on : (k i : ℕ) → i < 32 → bit_or k (1 * 2 ^ i % 2 ^ 32) ≡ with_bit k i true
with_bit-on k i l = same_from_bits (bit_or k (1 * 2 ^ i % 2 ^ 32)) (with_bit k i true) (λ j. elim (cases_eq j i) [
  | inl e ↦ rw e (bit_at_set_same w32 k i l ∙ sym (bit_at-with_bit_same k i true))
  | inr n ↦ bit_at_set_other w32 k i l j n ∙ sym (bit_at-with_bit_other k i j true n)
])

pub with_bit-off : (k i : ℕ) → i < 32 → k < 2 ^ 32 → bit_and k (bit_not w32 (1 * 2 ^ i % 2 ^ 32)) ≡ with_bit k i false
with_bit-off k i l m = same_from_bits_below 32 (bit_and k (bit_not w32 (1 * 2 ^ i % 2 ^ 32))) (with_bit k i false) (omega (arith, and_le_l k (bit_not w32 (1 * 2 ^ i % 2 ^ 32)), m)) (with_bit-lt 32 k i false m l) (λ j below. elim (cases_eq j i) [
  | inl e ↦ rw e (bit_at_clear_same w32 k i l ∙ sym (bit_at-with_bit_same k i false))
  | inr n ↦ bit_at_clear_other w32 k i l j below n ∙ sym (bit_at-with_bit_other k i j false n)
])

-- one bit above all others
pub put-lt : (mask k : ℕ) → k < 64 → mask < 2 ^ k → bit_or mask (1 * 2 ^ k % 2 ^ 64) < 2 ^ (k + 1)
put-lt mask k l m =
    let twice : 2 ^ (k + 1) ≡ 2 * 2 ^ k = ap (λ n. 2 ^ n) (add-one k) ∙ pow_twice k in
    or_lt (k + 1) mask (1 * 2 ^ k % 2 ^ 64) (omega (arith, m, twice)) (omega (arith, one_shl k 64 l, twice, pow_pos k))

pub put-same : (mask k : ℕ) → k < 64 → (j : ℕ) → j < k → bit_at (bit_or mask (1 * 2 ^ k % 2 ^ 64)) j ≡ bit_at mask j
put-same mask k l j m = bit_at_set_other w64 mask k l j (omega (arith, m))

pub put-here : (mask k : ℕ) → k < 64 → bit_at (bit_or mask (1 * 2 ^ k % 2 ^ 64)) k ≡ 1
put-here mask k l = bit_at_set_same w64 mask k l

-- the bits so far and one more
pub HasBits-more : (mask next k : ℕ) (bit : ℕ → Bool) → HasBits mask k bit → next < 2 ^ (k + 1) → ((j : ℕ) → j < k → bit_at next j ≡ bit_at mask j) → bit_at next k ≡ (if bit k then 1 else 0) → HasBits next (k + 1) bit
HasBits-more mask next k bit h l s p = record {
  below = l;
  bits = λ j m. elim (cases_eq j k) [
    | inl e ↦ rw e p
    | inr n ↦
        let lower : j < k = omega (arith, m, n) in
        s j lower ∙ h.bits j lower
  ];
}

pub cells_lt : (options : ℕ) → options ≤ 6 → 2 ^ options < 65
cells_lt options few = omega (arith, pow-le options few)

pub cells_are : (options : ℕ) → options ≤ 6 → 1 * 2 ^ options % 2 ^ 32 ≡ 2 ^ options
cells_are options few = one_shl options 32 (omega (arith, few))

-- the number so far and one option more
pub record IsNumber (n sum : ℕ) (c : List Bool) : Type 0 where
  pub value : sum ≡ number_of n c
  pub below : sum < 2 ^ n

pub IsNumber-more : (n sum next : ℕ) (c : List Bool) → IsNumber n sum c → next ≡ sum + (if value_of c n then 2 ^ n else 0) → IsNumber (n + 1) next c
IsNumber-more n sum next c h e =
    let same : next ≡ number_of (suc n) c = e ∙ ap (λ x. x + (if value_of c n then 2 ^ n else 0)) h.value ∙ sym (number_of-more n c) in
    record {
      value = same ∙ ap (λ k. number_of k c) (sym (add-one n));
      below = rw (add-one n, same) (number_of-lt (suc n) c);
    }

pub sum_small : (n sum : ℕ) → n < 6 → sum < 2 ^ n → sum + 1 * 2 ^ n % 2 ^ 32 < 2 ^ 32
sum_small n sum l m = omega (arith, one_shl n 32 (omega (arith, l)), pow-le n (omega (arith, l)), m)

pub sum_is : (n sum : ℕ) → n < 6 → sum + 1 * 2 ^ n % 2 ^ 32 ≡ sum + 2 ^ n
sum_is n sum l = omega (arith, one_shl n 32 (omega (arith, l)))

pub number_small : (n sum : ℕ) (c : List Bool) → n ≤ 6 → IsNumber n sum c → sum < 64
number_small n sum c l h = omega (arith, h.below, pow-le n l)

bit_test : (b : Bool) → nat_eq (if b then 1 else 0) 1 ≡ b
bit_test true = refl
bit_test false = refl

-- a mask by its bits stands for a set
pub IsSet-bits : (options mask : ℕ) (bit : ℕ → Bool) (set : List Bool → Bool) → HasBits mask (2 ^ options) bit → ((c : List Bool) → bit (number_of options c) ≡ set c) → IsSet (masks options) mask set
IsSet-bits options mask bit set h e = record {
  known = lt_known mask (2 ^ 2 ^ options) h.below;
  test = λ c. ap (λ x. nat_eq x 1) (h.bits (number_of options c) (number_of-lt options c)) ∙ bit_test (bit (number_of options c)) ∙ e c;
}

pub IsSet-option : (options mask i : ℕ) → i < options → HasBits mask (2 ^ options) (λ k. nat_eq (bit_at k i) 1) → IsSet (masks options) mask (λ c. value_of c i)
IsSet-option options mask i l h = IsSet-bits options mask _ (λ c. value_of c i) h (λ c. ap (λ x. nat_eq x 1) (bit_at-number_of options c i l) ∙ bit_test (value_of c i))

pub IsSet-fixed : (options a mask i : ℕ) (on : Bool) → i < options → HasBits mask (2 ^ options) (λ k. nat_eq (bit_at a (with_bit k i on)) 1) → IsSet (masks options) mask (fixed ((masks options).test a) i on)
IsSet-fixed options a mask i on l h = IsSet-bits options mask _ (fixed ((masks options).test a) i on) h (λ c. ap (λ k. nat_eq (bit_at a k) 1) (sym (number_of-with_option options c i on l)))

-- the set doesn't depend on the options below i
pub record IsFreeBelow (options a i : ℕ) : Type 0 where
  pub free : (j : ℕ) → j < i → IsFree ((masks options).test a) j

pub IsFreeBelow-more : (options a low high i : ℕ) → i < options → IsSet (masks options) low (fixed ((masks options).test a) i false) → IsSet (masks options) high (fixed ((masks options).test a) i true) → low ≡ high → IsFreeBelow options a i → IsFreeBelow options a (i + 1)
IsFreeBelow-more options a low high i l s t e f = record {
  free = λ j m. elim (cases_eq j i) [
    | inl q ↦ rw q (λ c. sym (t.test c) ∙ ap (λ k. (masks options).test k c) (sym e) ∙ s.test c)
    | inr n ↦ f.free j (omega (arith, m, n))
  ];
}

pub IsTop-mask : (options a low high i : ℕ) → options ≤ 6 → i < options → IsSet (masks options) low (fixed ((masks options).test a) i false) → IsSet (masks options) high (fixed ((masks options).test a) i true) → low ≢ high → IsFreeBelow options a i → IsTop (masks options) a i low high
IsTop-mask options a low high i few l s t n f =
    let d = some_difference (lawful_masks options few) high low t.known s.known (λ q. n (sym q)) in
    record {
      in_range = l;
      least = record { depends = (d.0, λ q. d.1 (t.test d.0 ∙ q ∙ sym (s.test d.0))); free_below = f.free };
      off = s;
      on = t;
    }

-- a configuration with an option set to its own value is the same to every set
same_value : (c : List Bool) (i j : ℕ) → value_of (with_option c i (value_of c i)) j ≡ value_of c j
same_value [] zero zero = refl
same_value [] zero (suc j) = refl
same_value [] (suc i) zero = refl
same_value [] (suc i) (suc j) = same_value [] i j
same_value (v ∷ c) zero zero = refl
same_value (v ∷ c) zero (suc j) = refl
same_value (v ∷ c) (suc i) zero = refl
same_value (v ∷ c) (suc i) (suc j) = same_value c i j

switched : (options a i : ℕ) (c : List Bool) → options ≤ 6 → nat_lt a (2 ^ 2 ^ options) ≡ true → IsFree ((masks options).test a) i → (masks options).test a (with_option c i false) ≡ (masks options).test a c
switched options a i c few k f = own (value_of c i) ∙ (lawful_masks options few).options_alone a (with_option c i (value_of c i)) c k (λ j l. same_value c i j)
  where
    own : (b : Bool) → (masks options).test a (with_option c i false) ≡ (masks options).test a (with_option c i b)
    own true = sym (f c)
    own false = refl

abbrev all_off : ℕ → List Bool → List Bool
all_off zero c = c
all_off (suc n) c = with_option (all_off n c) n false

off_below : (n : ℕ) (c : List Bool) (i : ℕ) → i < n → value_of (all_off n c) i ≡ false
off_below zero c i l = absurd (omega (arith, l))
off_below (suc n) c i l = elim (cases_eq n i) [
  | inl e ↦ ap (value_of (all_off (suc n) c)) (sym e) ∙ value_of-same (all_off n c) n false
  | inr q ↦ value_of-other (all_off n c) n i false q ∙ off_below n c i (omega (arith, l, q))
]

all_switched : (options a n : ℕ) (c : List Bool) → options ≤ 6 → nat_lt a (2 ^ 2 ^ options) ≡ true → IsFreeBelow options a n → (masks options).test a (all_off n c) ≡ (masks options).test a c
all_switched options a zero c few k f = refl
all_switched options a (suc n) c few k f = switched options a n (all_off n c) few k (f.free n (omega arith)) ∙ all_switched options a n c few k (record { free = λ j l. f.free j (omega (arith, l)) })

-- a set that depends on no option is never or always
pub constant : (options a n : ℕ) → options ≤ 6 → nat_lt a (2 ^ 2 ^ options) ≡ true → options ≤ n → IsFreeBelow options a n → (a ≡ (masks options).never) ⊎ (a ≡ (masks options).always)
constant options a n few k l f = cases ((masks options).test a []) refl
  where
    lawful : IsLawful (masks options)
    lawful = lawful_masks options few

    at_nil : (c : List Bool) → (masks options).test a c ≡ (masks options).test a []
    at_nil c = sym (all_switched options a n c few k f) ∙ lawful.options_alone a (all_off n c) [] k (λ i m. off_below n c i (omega (arith, l, m)))

    cases : (b : Bool) → (masks options).test a [] ≡ b → (a ≡ (masks options).never) ⊎ (a ≡ (masks options).always)
    cases true e = inr (lawful.equal_sets a (masks options).always k lawful.always_known (λ c. at_nil c ∙ e ∙ sym (lawful.always_test c)))
    cases false e = inl (lawful.equal_sets a (masks options).never k lawful.never_known (λ c. at_nil c ∙ e ∙ sym (lawful.never_test c)))

pow_below : (n : ℕ) → n < 6 → 2 ^ n < 64
pow_below zero l = omega arith
pow_below (suc zero) l = omega arith
pow_below (suc (suc zero)) l = omega arith
pow_below (suc (suc (suc zero))) l = omega arith
pow_below (suc (suc (suc (suc zero)))) l = omega arith
pow_below (suc (suc (suc (suc (suc zero))))) l = omega arith
pow_below (suc (suc (suc (suc (suc (suc n)))))) l = absurd (omega (arith, l))

pub cells_below : (options cells : ℕ) → options ≤ 6 → options ≢ 6 → cells ≡ 2 ^ options → cells < 64
cells_below options cells l n e = omega (arith, e, pow_below options (omega (arith, l, n)))

pub all_shifted : (options cells : ℕ) → options ≤ 6 → options ≢ 6 → cells ≡ 2 ^ options → 1 * 2 ^ cells % 2 ^ 64 ≡ 2 ^ 2 ^ options
all_shifted options cells l n e = one_shl cells 64 (cells_below options cells l n e) ∙ ap (λ k. 2 ^ k) e

pub all_positive : (options cells : ℕ) → options ≤ 6 → options ≢ 6 → cells ≡ 2 ^ options → 1 ≤ 1 * 2 ^ cells % 2 ^ 64
all_positive options cells l n e = rw (all_shifted options cells l n e) (pow_pos (2 ^ options))

-- a set whose parts differ is neither never nor always
pub not_constant : (options a low high i : ℕ) → options ≤ 6 → IsSet (masks options) low (fixed ((masks options).test a) i false) → IsSet (masks options) high (fixed ((masks options).test a) i true) → low ≢ high → (a ≡ (masks options).never) ⊎ (a ≡ (masks options).always) → ⊥
not_constant options a low high i few s t n e = n (lawful.equal_sets low high s.known t.known (λ c. s.test c ∙ same e (with_option c i false) (with_option c i true) ∙ sym (t.test c)))
  where
    lawful : IsLawful (masks options)
    lawful = lawful_masks options few

    same : (a ≡ (masks options).never) ⊎ (a ≡ (masks options).always) → (c d : List Bool) → (masks options).test a c ≡ (masks options).test a d
    same (inl e) c d = ap (λ k. (masks options).test k c) e ∙ lawful.never_test c ∙ sym (lawful.never_test d) ∙ ap (λ k. (masks options).test k d) (sym e)
    same (inr e) c d = ap (λ k. (masks options).test k c) e ∙ lawful.always_test c ∙ sym (lawful.always_test d) ∙ ap (λ k. (masks options).test k d) (sym e)
