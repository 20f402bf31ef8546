-- Ancestors of places, where each place has a list of parents.
use Rattle.std.specs.List.{list_all, list_any}
use Rattle.std.specs.Prelude.{Bool, List, [], false, flat_map, length, map, nat_eq, nat_le, nat_lt, suc, true, zero, ℕ, ◌<◌, ◌||◌, ◌∷◌, ◌≡◌}
use Rattle.vx_list.specs.Places.{item_or}

-- the parents of a place; none past the last place
abbrev pub parents_of : List (List ℕ) → ℕ → List ℕ
parents_of parents place = item_or parents place []

-- the ancestors of a place up to a number of steps
abbrev pub ancestors : List (List ℕ) → ℕ → ℕ → List ℕ
ancestors parents zero place = []
ancestors parents (suc n) place = flat_map (λ p. p ∷ ancestors parents n p) (parents_of parents place)

-- one place is among the ancestors of another up to a number of steps
abbrev pub is_ancestor_within : List (List ℕ) → ℕ → (above place : ℕ) → Bool
is_ancestor_within parents n above place = list_any (nat_eq above) (ancestors parents n place)

-- a place is its own ancestor, up to as many steps as there are places
abbrev pub is_own_ancestor : List (List ℕ) → ℕ → Bool
is_own_ancestor parents place = is_ancestor_within parents (length parents) place place

-- ---- where one place stands above others, found for all places at once

-- a parent is that place, or stands below it
abbrev pub leads_to : ℕ → List Bool → ℕ → Bool
leads_to above below parent = nat_eq above parent || item_or below parent false

-- the places below in one step more
abbrev pub one_step_more : List (List ℕ) → ℕ → List Bool → List Bool
one_step_more parents above below = map (λ row. list_any (leads_to above below) row) parents

-- the places below up to a number of steps
unfoldable pub below_within : List (List ℕ) → ℕ → ℕ → List Bool
below_within parents above zero = map (λ row. false) parents
below_within parents above (suc n) = one_step_more parents above (below_within parents above n)

-- ---- ranks

abbrev pub rank_of : List ℕ → ℕ → ℕ
rank_of ranks place = item_or ranks place 0

abbrev pub are_below : List ℕ → ℕ → List ℕ → Bool
are_below ranks own parents = list_all (λ p. nat_lt (rank_of ranks p) own) parents

abbrev pub are_at_most : List ℕ → ℕ → List ℕ → Bool
are_at_most ranks own parents = list_all (λ p. nat_le (rank_of ranks p) own) parents

-- no parent has a greater rank than its child
abbrev pub AreRanked : List (List ℕ) → List ℕ → Type 0
AreRanked parents ranks =
    (place : ℕ) → place < length parents → are_at_most ranks (rank_of ranks place) (parents_of parents place) ≡ true
