-- Tests of all items of a list.
use Rattle.std.proofs.Common.{All, Bool, List, [], arith, refl, suc, true, ◌∷◌, ◌≡◌}
use Rattle.std.specs.Cmp.Derive.{both_true}
use Rattle.std.specs.List.{AllByRecursion, list_all}

pub All-head : {A : Type 0} (P : A → Type 0) (x : A) (xs : List A) → All P (x ∷ xs) → P x
All-head P x xs h = h 0 x (omega arith)

pub All-tail : {A : Type 0} (P : A → Type 0) (x : A) (xs : List A) → All P (x ∷ xs) → All P xs
All-tail P x xs h = λ k d few. h (suc k) d (omega (arith, few))

-- what follows from a property of each item
pub all_pass : {A : Type 0} (P : A → Type 0) (test : A → Bool) → ((x : A) → P x → test x ≡ true) → (xs : List A) → All P xs → list_all test xs ≡ true
all_pass P test law [] h = refl
all_pass P test law (x ∷ xs) h = both_true (law x (All-head P x xs h)) (all_pass P test law xs (All-tail P x xs h))

pub each_passes : {A : Type 0} (P : A → Type 0) (test : A → Bool) → ((x : A) → P x → test x ≡ true) → (xs : List A) → AllByRecursion P xs → list_all test xs ≡ true
each_passes P test law [] all = refl
each_passes P test law (x ∷ xs) all = both_true (law x all.0) (each_passes P test law xs all.1)
