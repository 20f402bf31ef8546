-- What the rounds over all places find.
use Rattle.std.proofs.Common.{◌≡◌, ℕ, List, [], ◌∷◌, map, refl, ap, sym, ◌∙◌, Bool, true, false, zero, suc, flat_map, ◌||◌, nat_eq, ◌+◌, add-suc, add-zero, arith, ◌≤◌, ◌-◌}
use Rattle.std.specs.List.{list_any}
use Rattle.std.specs.Bool.{Decides}
use Rattle.std.specs.Cmp.Lexicographic.{pointwise}
use Rattle.std.proofs.lemmas.Slice.Eq.{slice_eq-Decides}
use mathlib.Core.Bool.{beq}
use Rattle.std.proofs.lemmas.List.Folds.{list_any-append}
use Rattle.vx_list.specs.Places.{item_or}
use Rattle.vx_ancestry.specs.Ancestors.{parents_of, ancestors, is_ancestor_within, leads_to, one_step_more, below_within}

-- an item of a mapped list
pub item_or-map : {A B : Type 0} (f : A → B) (d : A) (e : B) → f d ≡ e → (xs : List A) (i : ℕ) → item_or (map f xs) i e ≡ f (item_or xs i d)
item_or-map f d e h [] i = sym h
item_or-map f d e h (x ∷ xs) zero = refl
item_or-map f d e h (x ∷ xs) (suc i) = item_or-map f d e h xs i

pub list_any-flat_map : {A B : Type 0} (p : B → Bool) (f : A → List B) (xs : List A) → list_any p (flat_map f xs) ≡ list_any (λ x. list_any p (f x)) xs
list_any-flat_map p f [] = refl
list_any-flat_map p f (x ∷ xs) = list_any-append p (f x) (flat_map f xs) ∙ ap (λ b. list_any p (f x) || b) (list_any-flat_map p f xs)

pub list_any_same : {A : Type 0} (p q : A → Bool) → ((x : A) → p x ≡ q x) → (xs : List A) → list_any p xs ≡ list_any q xs
list_any_same p q h [] = refl
list_any_same p q h (x ∷ xs) = rw (h x, list_any_same p q h xs) refl

pub below_within-zero : (parents : List (List ℕ)) (above : ℕ) → below_within parents above 0 ≡ map (λ row. false) parents
unfolding below_within
below_within-zero parents above = refl

pub below_within-suc : (parents : List (List ℕ)) (above n : ℕ) → below_within parents above (suc n) ≡ one_step_more parents above (below_within parents above n)
unfolding below_within
below_within-suc parents above n = refl

-- a place is found below another exactly where the other is its ancestor
pub below-is : (parents : List (List ℕ)) (above n place : ℕ) → item_or (below_within parents above n) place false ≡ is_ancestor_within parents n above place
below-is parents above zero place = rw below_within-zero (item_or-map (λ row. false) [] false refl parents place)
below-is parents above (suc n) place =
    rw below_within-suc
    (item_or-map (λ row. list_any (leads_to above (below_within parents above n)) row) [] false refl parents place
    ∙ list_any_same (leads_to above (below_within parents above n)) (λ p. list_any (nat_eq above) (p ∷ ancestors parents n p))
    (λ p. ap (λ b. nat_eq above p || b) (below-is parents above n p)) (parents_of parents place)
    ∙ sym (list_any-flat_map (nat_eq above) (λ p. p ∷ ancestors parents n p) (parents_of parents place)))

-- where a round finds nothing new, no later round does
pub below-stays : (parents : List (List ℕ)) (above n k : ℕ) → one_step_more parents above (below_within parents above n) ≡ below_within parents above n → below_within parents above (n + k) ≡ below_within parents above n
below-stays parents above n zero h = rw add-zero refl
below-stays parents above n (suc k) h = rw (add-suc, below_within-suc, below-stays parents above n k h) h

beq-Decides : (a b : Bool) → Decides (beq a b) (a ≡ b)
beq-Decides true true = (λ _. refl, λ _. refl)
beq-Decides true false = (sym, sym)
beq-Decides false true = (λ h. h, λ h. h)
beq-Decides false false = (λ _. refl, λ _. refl)

-- rounds that are compared and found equal
pub same_round : (old new : List Bool) (equal : Bool) → equal ≡ pointwise beq new old → equal ≡ true → new ≡ old
same_round old new equal e h = (slice_eq-Decides beq-Decides new old equal e).0 h

-- the last round, where a round found nothing new
pub last_round : (parents : List (List ℕ)) (above n last : ℕ) → n ≤ last → one_step_more parents above (below_within parents above n) ≡ below_within parents above n → below_within parents above n ≡ below_within parents above last
last_round parents above n last h fixed =
    let whole : n + (last - n) ≡ last = omega (arith, h) in sym (below-stays parents above n (last - n) fixed) ∙ ap (below_within parents above) whole
