-- Decimal numbers read back.
use Rattle.std.proofs.Common.{◌≡◌, ◌≢◌, ℕ, ◌<◌, ◌≤◌, ◌^◌, List, Bool, true, false, Option, Some, None, MatchOption, decimal, refl, ap, sym, ◌∙◌, arith, nat_lt, ◌&&◌}
use Rattle.std.proofs.lemmas.Bool.Decides.{nat_tests}
use Rattle.std.proofs.lemmas.Fmt.{decimal_is_IsNumeral_wide}
use Rattle.std.specs.Str.Parse.{digits_value}
use Rattle.std.specs.Str.{bytes_eq}
use Rattle.std.proofs.lemmas.Slice.Eq.{bytes_eq-Decides}
use Rattle.vx_words.proofs.Decimals.{wide}
use Rattle.vx_report_line.specs.Parsing.{◌>>=◌, only_if, below, decimal_in, number_in}

pub by_test : {P : Type 0} (b : Bool) → (b ≡ true → P) → (b ≡ false → P) → P
by_test true t f = t refl
by_test false t f = f refl

pub both_true : (a b : Bool) → (a && b) ≡ true → (a ≡ true) × (b ≡ true)
both_true true true h = (refl, refl)
both_true true false h = cc
both_true false b h = cc

pub same_bytes_same : (a b : List ℕ) → bytes_eq a b ≡ true → a ≡ b
same_bytes_same a b h = (bytes_eq-Decides a b).0 h

pub same_bytes_refl : (a : List ℕ) → bytes_eq a a ≡ true
same_bytes_refl a = (bytes_eq-Decides a a).1 refl

pub only_if_is : {A : Type 0} (test : Bool) (next : Option A) (x : A) → only_if test next ≡ Some x → (test ≡ true) × (next ≡ Some x)
only_if_is true next x h = (refl, h)
only_if_is false next x h = cc

pub decimal_in_of : (n : ℕ) → n < 10 ^ 64 → decimal_in (decimal n) ≡ Some n
unfolding decimal_in
decimal_in_of n h = rw ((decimal_is_IsNumeral_wide n h).1, same_bytes_refl (decimal n)) refl

pub decimal_in_is : (word : List ℕ) (n : ℕ) → decimal_in word ≡ Some n → word ≡ decimal n
unfolding decimal_in
decimal_in_is word n h =
    let p = only_if_is (bytes_eq (decimal (digits_value 10 word)) word) (Some (digits_value 10 word)) n h in
    let value : digits_value 10 word ≡ n = some_same p.1 in
    sym (same_bytes_same _ _ p.0) ∙ ap decimal value
  where
    some_same : {A : Type 0} {x y : A} → Some x ≡ Some y → x ≡ y
    some_same h = cc

pub below_of : (bound n : ℕ) → n < bound → below bound n ≡ Some n
below_of bound n h = let e : nat_lt n bound ≡ true = grind (arith, nat_tests) in rw e refl

pub not_below : (bound n : ℕ) → bound ≤ n → below bound n ≡ None
not_below bound n h = let e : nat_lt n bound ≡ false = grind (arith, nat_tests) in rw e refl

pub number_in_of : (bound n : ℕ) → n < bound → n < 10 ^ 64 → number_in bound (decimal n) ≡ Some n
unfolding number_in
number_in_of bound n h wide = rw (decimal_in_of n wide) (below_of bound n h)

below_is : (bound : ℕ) (o : Option ℕ) (n : ℕ) → (o >>= below bound) ≡ Some n → (o ≡ Some n) × (n < bound)
below_is bound None n h = cc
below_is bound (Some m) n h =
    let p = only_if_is (nat_lt m bound) (Some m) n h in
    let test : nat_lt m bound ≡ true = p.0 in
    let value : m ≡ n = cc in
    let less : m < bound = grind (arith, nat_tests) in
    (p.1, omega (arith, value, less))

pub number_in_is : (bound : ℕ) (word : List ℕ) (n : ℕ) → number_in bound word ≡ Some n → (word ≡ decimal n) × (n < bound)
unfolding number_in
number_in_is bound word n h = let p = below_is bound (decimal_in word) n h in (decimal_in_is word n p.0, p.1)

pub no_value : {A : Type 0} (o : Option A) → ((x : A) → o ≡ Some x → ⊥) → o ≡ None
no_value None h = refl
no_value (Some x) h = absurd (h x refl)

pub number_in_none : (bound : ℕ) (word : List ℕ) → ((n : ℕ) → n < bound → word ≢ decimal n) → number_in bound word ≡ None
number_in_none bound word h = no_value (number_in bound word) (λ n e. let p = number_in_is bound word n e in h n p.1 p.0)

-- a lesser bound
pub narrow_none : (less bound : ℕ) (word : List ℕ) → less ≤ bound → number_in bound word ≡ None → number_in less word ≡ None
unfolding number_in
narrow_none less bound word h e = by_option (decimal_in word) e
  where
    by_option : (o : Option ℕ) → (o >>= below bound) ≡ None → (o >>= below less) ≡ None
    by_option None e = refl
    by_option (Some m) e = by_test (nat_lt m bound) (λ t. absurd (clash t e)) (λ f. let g : bound ≤ m = grind (arith, nat_tests) in not_below less m (omega (arith, g, h)))
      where
        clash : nat_lt m bound ≡ true → below bound m ≡ None → ⊥
        clash t e = let s : below bound m ≡ Some m = rw t refl in cc

pub narrow_some : (less bound : ℕ) (word : List ℕ) (n : ℕ) → n < less → number_in bound word ≡ Some n → number_in less word ≡ Some n
unfolding number_in
narrow_some less bound word n h e = rw ((below_is bound (decimal_in word) n e).0) (below_of less n h)

pub narrow_over : (less bound : ℕ) (word : List ℕ) (n : ℕ) → less ≤ n → number_in bound word ≡ Some n → number_in less word ≡ None
unfolding number_in
narrow_over less bound word n h e = rw ((below_is bound (decimal_in word) n e).0) (not_below less n h)

-- what a number reads that is compared with its print
pub number_in_when : (bound : ℕ) (word : List ℕ) (found : Option ℕ) → bound ≤ 2 ^ 128
    → MatchOption found ((n : ℕ) → n < bound → word ≢ decimal n) (λ n. (word ≡ decimal n) × (n < bound)) → found ≡ number_in bound word
number_in_when bound word None few h = sym (number_in_none bound word h)
number_in_when bound word (Some n) few (is, small) = rw is (sym (number_in_of bound n small (wide n (omega (arith, few, small)))))
