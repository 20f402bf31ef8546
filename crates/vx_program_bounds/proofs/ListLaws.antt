-- Tests of all items of a list, a place behind a front, and the place of an item.
use Rattle.std.proofs.Common.{Bool, List, None, Option, Some, [], cond, false, if◌then◌else◌, length, nat_lt, position, refl, slice_get, true, ℕ, ◌&&◌, ◌++◌, ◌∷◌, ◌≡◌, ◌||◌, ap}
use Rattle.std.specs.List.{list_all, position_or_len}
use Rattle.std.specs.Option.{option_or}
use Rattle.vx_heap.specs.Heap.{has_option}

-- ---- tests

pub both : {a b : Bool} → a ≡ true → b ≡ true → (a && b) ≡ true
both e f = λ i. e i && f i

pub first_holds : (a b : Bool) → (a && b) ≡ true → a ≡ true
first_holds true b e = refl
first_holds false b e = e

pub second_holds : (a b : Bool) → (a && b) ≡ true → b ≡ true
second_holds true b e = e
second_holds false b e = cc

pub fifth_holds : (a b c d e : Bool) → (a && (b && (c && (d && e)))) ≡ true → e ≡ true
fifth_holds a b c d e h = second_holds d e (second_holds c _ (second_holds b _ (second_holds a _ h)))

-- what fails with two tests fails with a third one
pub fails_more : (a b c : Bool) → (a && b) ≡ false → (a && (b && c)) ≡ false
fails_more true true c e = cc
fails_more true false c e = refl
fails_more false b c e = refl

pub or_right : (a b : Bool) → b ≡ true → (a || b) ≡ true
or_right true b e = refl
or_right false b e = e

pub or_left : (a b : Bool) → a ≡ true → (a || b) ≡ true
or_left a b e = ap (λ t. t || b) e

pub in_rest : (a b : Bool) → a ≡ false → (a || b) ≡ true → b ≡ true
in_rest true b n e = cc
in_rest false b n e = e

-- ---- all items

-- what follows from a test of each item
pub all_follow : {A : Type 0} (given test : A → Bool) → ((x : A) → given x ≡ true → test x ≡ true) → (xs : List A) → list_all given xs ≡ true → list_all test xs ≡ true
all_follow given test law [] h = refl
all_follow given test law (x ∷ xs) h = both (law x (first_holds _ _ h)) (all_follow given test law xs (second_holds _ _ h))

-- ---- places

pub behind_front : {A : Type 0} (front : List A) (x : A) (rest : List A) → slice_get (front ++ x ∷ rest) (length front) ≡ Some x
behind_front [] x rest = refl
behind_front (y ∷ front) x rest = behind_front front x rest

below : (bound n : ℕ) (b : Bool) → nat_lt n bound ≡ b → has_option bound (cond b (Some n) None) ≡ true
below bound n true e = e
below bound n false e = refl

-- a place is below the length
pub place_below : {A : Type 0} (test : A → Bool) (xs : List A) → has_option (length xs) (position test xs) ≡ true
place_below test xs = below (length xs) (position_or_len test xs) (nat_lt (position_or_len test xs) (length xs)) refl

pub place_if : (bound : ℕ) (b : Bool) (o : Option ℕ) → has_option bound o ≡ true → has_option bound (if b then o else None) ≡ true
place_if bound true o e = e
place_if bound false o e = refl

-- no fault in all is no fault in the last
pub last_none : {A : Type 0} (first last : Option A) → option_or first last ≡ None → last ≡ None
last_none None last e = e
last_none (Some x) last e = cc
