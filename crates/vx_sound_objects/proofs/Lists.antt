-- Lists by their places: parts one behind the other, and numbers in a row.
use Rattle.std.proofs.Common.{Bool, List, Some, [], arith, false, inl, inr, length, map, refl, slice_get, suc, true, zero, ℕ, ◌++◌, ◌+◌, ◌<◌, ◌≢◌, ◌⊎◌, ◌∷◌, ◌≡◌, ◌≤◌}
use Rattle.std.proofs.Math.Dec.{eqb}
use Rattle.std.proofs.lemmas.Bool.Decides.{Decides-eqb, eqb_tells}
use Rattle.std.specs.List.{list_all, range_with_len}
use Rattle.std.specs.Prelude.{nat_eq}
use Rattle.vx_pool.specs.Holding.{and_true}
use Rattle.vx_link.specs.Hierarchy.{is_among}
use Rattle.vx_list.specs.Places.{item_or}
use Rattle.vx_types.proofs.Tests.{either, or_first, or_second}

-- ---- places

-- the item of a place that there is
pub item_there : {A : Type 0} (xs : List A) (k : ℕ) (d : A) → k < length xs → slice_get xs k ≡ Some (item_or xs k d)
item_there [] k d less = absurd (omega (arith, less))
item_there (x ∷ xs) zero d less = refl
item_there (x ∷ xs) (suc k) d less = item_there xs k d (omega (arith, less))

pub missing_item : {A : Type 0} (xs : List A) (k : ℕ) (d : A) → length xs ≤ k → item_or xs k d ≡ d
missing_item [] k d over = refl
missing_item (x ∷ xs) zero d over = absurd (omega (arith, over))
missing_item (x ∷ xs) (suc k) d over = missing_item xs k d (omega (arith, over))

pub passing_item : {A : Type 0} (test : A → Bool) (xs : List A) (k : ℕ) (d : A) → list_all test xs ≡ true → test d ≡ true → test (item_or xs k d) ≡ true
passing_item test [] k d all none = none
passing_item test (x ∷ xs) zero d all none = (and_true _ _ all).0
passing_item test (x ∷ xs) (suc k) d all none = passing_item test xs k d (and_true _ _ all).1 none

pub mapped_item : {A B : Type 0} (f : A → B) (xs : List A) (k : ℕ) (d : A) → item_or (map f xs) k (f d) ≡ f (item_or xs k d)
mapped_item f [] k d = refl
mapped_item f (x ∷ xs) zero d = refl
mapped_item f (x ∷ xs) (suc k) d = mapped_item f xs k d

pub unmapped : {A B : Type 0} (f : A → B) (xs : List A) (k : ℕ) (y : B) → slice_get (map f xs) k ≡ Some y → (x : A) × (slice_get xs k ≡ Some x) × (f x ≡ y)
unmapped f [] k y is = cc
unmapped f (x ∷ xs) zero y is = (x, refl, cc)
unmapped f (x ∷ xs) (suc k) y is = unmapped f xs k y is

-- ---- a list in front of another

pub in_front : {A : Type 0} (xs ys : List A) (k : ℕ) (x : A) → slice_get xs k ≡ Some x → slice_get (xs ++ ys) k ≡ Some x
in_front [] ys k x is = cc
in_front (y ∷ xs) ys zero x is = is
in_front (y ∷ xs) ys (suc k) x is = in_front xs ys k x is

-- an item stands in the one or in the other
pub parted : {A : Type 0} (xs ys : List A) (i : ℕ) (x : A) → slice_get (xs ++ ys) i ≡ Some x
    → (slice_get xs i ≡ Some x) ⊎ ((k : ℕ) × (i ≡ length xs + k) × (slice_get ys k ≡ Some x))
parted [] ys i x is = inr (i, omega arith, is)
parted (y ∷ xs) ys zero x is = inl is
parted (y ∷ xs) ys (suc i) x is = elim (parted xs ys i x is) [
  | inl here ↦ inl here
  | inr later ↦ inr (later.0, (let more = later.1 in omega (arith, more)), later.2)
]

-- ---- numbers in a row

pub in_row : (f from n : ℕ) → is_among f (range_with_len from n) ≡ true → (from ≤ f) × (f < from + n)
in_row f from zero among = absurd cc
in_row f from (suc n) among = elim (either (nat_eq f from) (is_among f (range_with_len (from + 1) n)) among) [
  | inl same ↦ let equal : f ≡ from = (Decides-eqb f from).0 same in (omega (arith, equal), omega (arith, equal))
  | inr later ↦ let within = in_row f (from + 1) n later in (let low = within.0 in omega (arith, low), let high = within.1 in omega (arith, high))
]

pub row_has : (f from n : ℕ) → from ≤ f → f < from + n → is_among f (range_with_len from n) ≡ true
row_has f from zero low high = absurd (omega (arith, low, high))
row_has f from (suc n) low high = by (eqb_tells f from) (λ more less. row_has f (from + 1) n more less)
  where
    by : (((eqb f from ≡ true) × (f ≡ from)) ⊎ ((eqb f from ≡ false) × (f ≢ from)))
        → (from + 1 ≤ f → f < from + 1 + n → is_among f (range_with_len (from + 1) n) ≡ true)
        → is_among f (range_with_len from (suc n)) ≡ true
    by (inl same) later = or_first (nat_eq f from) (is_among f (range_with_len (from + 1) n)) same.0
    by (inr other) later =
        let differ : f ≢ from = other.1 in
        or_second (nat_eq f from) (is_among f (range_with_len (from + 1) n)) (later (omega (arith, low, differ)) (omega (arith, high)))
