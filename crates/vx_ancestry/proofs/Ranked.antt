-- Where no parent has a greater rank than its child, a place whose parents have lesser ranks is not its own ancestor.
use Rattle.std.proofs.Common.{◌≡◌, ℕ, List, [], ◌∷◌, refl, ap, ◌∙◌, Bool, true, false, zero, suc, ◌&&◌, ◌||◌, length, nat_eq, nat_lt, ◌<◌, ◌≤◌, arith}
use Rattle.std.specs.List.{list_all, list_any}
use Rattle.std.specs.Prelude.{nat_le}
use Rattle.std.proofs.lemmas.Bool.{leb-true, ltb-true, ltb-false}
use Rattle.std.proofs.lemmas.Bool.Decides.{Decides-eqb}
use Rattle.vx_ancestry.proofs.Rounds.{list_any-flat_map}
use Rattle.vx_ancestry.specs.Ancestors.{parents_of, ancestors, is_ancestor_within, is_own_ancestor, rank_of, are_at_most, are_below, AreRanked}

-- a place past the last one has no parents
parents_of-past : (parents : List (List ℕ)) (place : ℕ) → length parents ≤ place → parents_of parents place ≡ []
parents_of-past [] place h = refl
parents_of-past (row ∷ rows) zero h = absurd (omega arith)
parents_of-past (row ∷ rows) (suc place) h = parents_of-past rows place (omega arith)

and-left : (a b : Bool) → (a && b) ≡ true → a ≡ true
and-left true b h = refl
and-left false b h = h

and-right : (a b : Bool) → (a && b) ≡ true → b ≡ true
and-right true b h = h
and-right false b h = cc

pub false-unless : (b : Bool) → (b ≡ true → ⊥) → b ≡ false
false-unless false h = refl
false-unless true h = absurd (h refl)

at-most-at : (parents : List (List ℕ)) (ranks : List ℕ) → AreRanked parents ranks → (place : ℕ) (b : Bool) → nat_lt place (length parents) ≡ b
    → are_at_most ranks (rank_of ranks place) (parents_of parents place) ≡ true
at-most-at parents ranks h place true e = h place (ltb-true place (length parents) e)
at-most-at parents ranks h place false e = rw (parents_of-past parents place (ltb-false place (length parents) e)) refl

-- a parent of a lesser rank is another place
other : (ranks : List ℕ) (above p : ℕ) → rank_of ranks p < rank_of ranks above → nat_eq above p ≡ false
other ranks above p lt =
    false-unless (nat_eq above p) (λ e. let same : rank_of ranks above ≡ rank_of ranks p = ap (rank_of ranks) ((Decides-eqb above p).0 e) in omega (arith, same, lt))

-- a place is neither among parents that pass a test nor above them
none-among : (above : ℕ) (f : ℕ → List ℕ) (test : ℕ → Bool) → ((p : ℕ) → test p ≡ true → list_any (nat_eq above) (p ∷ f p) ≡ false)
    → (ps : List ℕ) → list_all test ps ≡ true → list_any (λ p. list_any (nat_eq above) (p ∷ f p)) ps ≡ false
none-among above f test far [] all = refl
none-among above f test far (p ∷ ps) all =
    ap (λ b. b || list_any (λ p. list_any (nat_eq above) (p ∷ f p)) ps) (far p (and-left (test p) (list_all test ps) all))
    ∙ none-among above f test far ps (and-right (test p) (list_all test ps) all)

-- a parent of a lesser rank, under which the place isn't found
far-from : (ranks : List ℕ) (above p : ℕ) (up : List ℕ) → rank_of ranks p < rank_of ranks above → list_any (nat_eq above) up ≡ false → list_any (nat_eq above) (p ∷ up) ≡ false
far-from ranks above p up lt none = ap (λ b. b || list_any (nat_eq above) up) (other ranks above p lt) ∙ none

-- a place of a greater rank is not among the ancestors
none-above : (parents : List (List ℕ)) (ranks : List ℕ) → AreRanked parents ranks
    → (n above place : ℕ) → rank_of ranks place < rank_of ranks above → is_ancestor_within parents n above place ≡ false
none-above parents ranks h zero above place lt = refl
none-above parents ranks h (suc n) above place lt =
    list_any-flat_map (nat_eq above) (λ p. p ∷ ancestors parents n p) (parents_of parents place)
    ∙ none-among above (ancestors parents n) (λ p. nat_le (rank_of ranks p) (rank_of ranks place))
    (λ p t. let less : rank_of ranks p < rank_of ranks above = omega (arith, leb-true (rank_of ranks p) (rank_of ranks place) t, lt) in far-from ranks above p (ancestors parents n p) less (none-above parents ranks h n above p less))
    (parents_of parents place) (at-most-at parents ranks h place (nat_lt place (length parents)) refl)

none-own : (parents : List (List ℕ)) (ranks : List ℕ) → AreRanked parents ranks → (n place : ℕ) → are_below ranks (rank_of ranks place) (parents_of parents place) ≡ true
    → is_ancestor_within parents n place place ≡ false
none-own parents ranks h zero place below = refl
none-own parents ranks h (suc n) place below =
    list_any-flat_map (nat_eq place) (λ p. p ∷ ancestors parents n p) (parents_of parents place)
    ∙ none-among place (ancestors parents n) (λ p. nat_lt (rank_of ranks p) (rank_of ranks place))
    (λ p t. let less = ltb-true (rank_of ranks p) (rank_of ranks place) t in far-from ranks place p (ancestors parents n p) less (none-above parents ranks h n place p less))
    (parents_of parents place) below

-- a place whose parents have lesser ranks
pub not_own : (parents : List (List ℕ)) (ranks : List ℕ) → AreRanked parents ranks → (place : ℕ) → are_below ranks (rank_of ranks place) (parents_of parents place) ≡ true
    → is_own_ancestor parents place ≡ false
not_own parents ranks h place below = none-own parents ranks h (length parents) place below

all_zero : (places : List ℕ) → are_at_most [] 0 places ≡ true
all_zero [] = refl
all_zero (p ∷ ps) = all_zero ps

-- all places have rank 0 where there are no ranks
pub no_ranks : (parents : List (List ℕ)) → AreRanked parents []
no_ranks parents place within = all_zero (parents_of parents place)
