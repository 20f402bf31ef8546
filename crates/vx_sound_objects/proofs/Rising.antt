-- Numbers that rise, and the place of one of them.
use Rattle.std.proofs.Common.{Bool, List, Some, [], ap, arith, cond, false, filter, inl, inr, length, refl, slice_get, suc, sym, true, zero, ℕ, ◌+◌, ◌⊎◌, ◌∙◌, ◌∷◌, ◌≡◌, ◌≤◌}
use Rattle.std.proofs.lemmas.Bool.{le-ltb, lt-ltb}
use Rattle.std.proofs.lemmas.Bool.Decides.{Decides-eqb}
use Rattle.std.specs.List.{range_with_len}
use Rattle.std.specs.Prelude.{nat_eq, nat_lt}
use Rattle.vx_link.specs.Hierarchy.{is_among}
use Rattle.vx_types.proofs.Tests.{either, or_first, or_second}

-- each number is above the one before it, and the first not below a number
abbrev pub Rises : ℕ → List ℕ → Type 0
Rises low [] = Unit {0}
Rises low (x ∷ xs) = (low ≤ x) × Rises (x + 1) xs

pub row_rises : (from n : ℕ) → Rises from (range_with_len from n)
row_rises from zero = tt
row_rises from (suc n) = (omega arith, row_rises (from + 1) n)

rises_lower : (low lower : ℕ) (xs : List ℕ) → lower ≤ low → Rises low xs → Rises lower xs
rises_lower low lower [] less rises = tt
rises_lower low lower (x ∷ xs) less rises = ((let first = rises.0 in omega (arith, less, first)), rises.1)

pub filter_rises : (test : ℕ → Bool) (low : ℕ) (xs : List ℕ) → Rises low xs → Rises low (filter test xs)
filter_rises test low [] rises = tt
filter_rises test low (x ∷ xs) rises = by (test x) (filter_rises test (x + 1) xs rises.1)
  where
    by : (b : Bool) → Rises (x + 1) (filter test xs) → Rises low (cond b (x ∷ filter test xs) (filter test xs))
    by true later = (rises.0, later)
    by false later = rises_lower (x + 1) low (filter test xs) (let first = rises.0 in omega (arith, first)) later

pub none_below : (f low : ℕ) (xs : List ℕ) → f ≤ low → Rises low xs → filter (λ g. nat_lt g f) xs ≡ []
none_below f low [] less rises = refl
none_below f low (x ∷ xs) less rises =
    let first = rises.0 in
    let over : nat_lt x f ≡ false = le-ltb x f (omega (arith, first, less)) in
    ap (λ b. cond b (x ∷ filter (λ g. nat_lt g f) xs) (filter (λ g. nat_lt g f) xs)) over ∙ none_below f (x + 1) xs (omega (arith, first, less)) rises.1

among_above : (f low : ℕ) (xs : List ℕ) → Rises low xs → is_among f xs ≡ true → low ≤ f
among_above f low [] rises among = absurd cc
among_above f low (x ∷ xs) rises among = by (either (nat_eq f x) (is_among f xs) among) (among_above f (x + 1) xs rises.1)
  where
    by : ((nat_eq f x ≡ true) ⊎ (is_among f xs ≡ true)) → (is_among f xs ≡ true → x + 1 ≤ f) → low ≤ f
    by (inl same) later = let equal : f ≡ x = (Decides-eqb f x).0 same in let first = rises.0 in omega (arith, equal, first)
    by (inr there) later = let above = later there in let first = rises.0 in omega (arith, above, first)

-- as many stand before it as are less
pub placed : (f low : ℕ) (xs : List ℕ) → Rises low xs → is_among f xs ≡ true → slice_get xs (length (filter (λ g. nat_lt g f) xs)) ≡ Some f
placed f low [] rises among = absurd cc
placed f low (x ∷ xs) rises among = by (either (nat_eq f x) (is_among f xs) among) (placed f (x + 1) xs rises.1)
  where
    by : ((nat_eq f x ≡ true) ⊎ (is_among f xs ≡ true)) → (is_among f xs ≡ true → slice_get xs (length (filter (λ g. nat_lt g f) xs)) ≡ Some f)
        → slice_get (x ∷ xs) (length (filter (λ g. nat_lt g f) (x ∷ xs))) ≡ Some f
    by (inl same) later =
        let equal : f ≡ x = (Decides-eqb f x).0 same in
        ap (λ ys. slice_get (x ∷ xs) (length ys)) (none_below f x (x ∷ xs) (omega (arith, equal)) (omega arith, rises.1)) ∙ ap Some (sym equal)
    by (inr there) later =
        let above : x + 1 ≤ f = among_above f (x + 1) xs rises.1 there in
        let below : nat_lt x f ≡ true = lt-ltb x f (omega (arith, above)) in
        ap (λ b. slice_get (x ∷ xs) (length (cond b (x ∷ filter (λ g. nat_lt g f) xs) (filter (λ g. nat_lt g f) xs)))) below ∙ later there

-- ---- what passes a test

pub among_filter : (test : ℕ → Bool) (f : ℕ) (xs : List ℕ) → is_among f xs ≡ true → test f ≡ true → is_among f (filter test xs) ≡ true
among_filter test f [] among passes = absurd cc
among_filter test f (x ∷ xs) among passes = by (either (nat_eq f x) (is_among f xs) among) (λ there. among_filter test f xs there passes)
  where
    there_with : (b : Bool) → is_among f (filter test xs) ≡ true → is_among f (cond b (x ∷ filter test xs) (filter test xs)) ≡ true
    there_with true later = or_second (nat_eq f x) (is_among f (filter test xs)) later
    there_with false later = later

    by : ((nat_eq f x ≡ true) ⊎ (is_among f xs ≡ true)) → (is_among f xs ≡ true → is_among f (filter test xs) ≡ true) → is_among f (filter test (x ∷ xs)) ≡ true
    by (inl same) later =
        let passing : test x ≡ true = ap test (sym ((Decides-eqb f x).0 same)) ∙ passes in
        ap (λ b. is_among f (cond b (x ∷ filter test xs) (filter test xs))) passing ∙ or_first (nat_eq f x) (is_among f (filter test xs)) same
    by (inr there) later = there_with (test x) (later there)
