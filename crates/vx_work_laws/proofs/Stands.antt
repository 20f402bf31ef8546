-- Where a part of a list stands, and what it has there.
use Rattle.std.proofs.Common.{All, List, [], ap, append_assoc, arith, length, length-append, suc, sym, zero, ℕ, ◌++◌, ◌+◌, ◌∙◌, ◌∷◌, ◌≡◌}
use Rattle.std.proofs.lemmas.List.Elements.{All-cons}
use Rattle.std.specs.List.{AllByRecursion, slice_get}

-- a part stands from a place on
pub record Stands {A : Type 0} (all : List A) (at : ℕ) (part : List A) : Type 0 where
  pub before : List A
  pub after : List A
  pub is : all ≡ before ++ (part ++ after)
  pub count : length before ≡ at

get_behind : {A : Type 0} (before xs : List A) (at j : ℕ) → length before ≡ at → slice_get (before ++ xs) (at + j) ≡ slice_get xs j
get_behind [] xs at j count =
    let same : at + j ≡ j = omega (arith, count) in
    ap (slice_get xs) same
get_behind (b ∷ before) xs zero j count = absurd (omega (arith, count))
get_behind (b ∷ before) xs (suc at) j count =
    let next : suc at + j ≡ suc (at + j) = omega arith in
    ap (slice_get (b ∷ (before ++ xs))) next ∙ get_behind before xs at j (omega (arith, count))

-- an item of it
pub item_there : {A : Type 0} (all : List A) (at : ℕ) (part : List A) (s : Stands all at part) (j i : ℕ) → i ≡ at + j → slice_get all i ≡ slice_get (part ++ s.after) j
item_there all at part s j i is = ap (slice_get all) is ∙ ap (λ xs. slice_get xs (at + j)) s.is ∙ get_behind s.before (part ++ s.after) at j s.count

-- its first part
pub first_stands : {A : Type 0} (all : List A) (at : ℕ) (a b : List A) → Stands all at (a ++ b) → Stands all at a
first_stands all at a b s = record { before = s.before; after = b ++ s.after; is = s.is ∙ ap (λ x. s.before ++ x) (append_assoc a b s.after); count = s.count }

-- and what is behind it
pub rest_stands : {A : Type 0} (all : List A) (at next : ℕ) (a b : List A) → Stands all at (a ++ b) → at + length a ≡ next → Stands all next b
rest_stands all at next a b s behind = record {
  before = s.before ++ a;
  after = s.after;
  is = s.is ∙ ap (λ x. s.before ++ x) (append_assoc a b s.after) ∙ sym (append_assoc s.before a (b ++ s.after));
  count = let l = length-append s.before a in let c = s.count in omega (arith, l, c, behind);
}

-- what holds of all of two lists
pub all_append : {A : Type 0} (P : A → Type 0) (xs ys : List A) → AllByRecursion P xs → AllByRecursion P ys → AllByRecursion P (xs ++ ys)
all_append P [] ys first second = second
all_append P (x ∷ xs) ys first second = (first.0, all_append P xs ys first.1 second)

-- what holds of each of four
pub all_four : {A : Type 0} (P : A → Type 0) (a b c d : A) → P a → P b → P c → P d → All P (a ∷ b ∷ c ∷ d ∷ [])
all_four P a b c d first second third last =
    All-cons P a (b ∷ c ∷ d ∷ []) first (All-cons P b (c ∷ d ∷ []) second (All-cons P c (d ∷ []) third (All-cons P d [] last (λ k e lt. absurd (omega (arith, lt))))))
