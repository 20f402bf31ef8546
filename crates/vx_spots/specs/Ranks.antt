-- The kinds of what is lacking, by how many spots lack them (own).
use Rattle.std.specs.List.Sorted.{IsPermutation, IsSorted}
use Rattle.std.specs.Prelude.{Bool, List, None, Option, Some, [], false, if◌then◌else◌, ℕ, ◌++◌, ◌+◌, ◌==◌, ◌∷◌}
use Rattle.std.specs.declared.cmp.Ordering.{Ordering}
use Rattle.vx_spots.specs.contracts.ranks.RankOrd.TheImpl as rank_ord
use Rattle.vx_spots.specs.declared.entries.Entry.{Entry}
use Rattle.vx_spots.specs.declared.ranks.Rank.{Rank}

-- a place is the last one that came
abbrev pub is_at : Option ℕ → ℕ → Bool
is_at None place = false
is_at (Some last) place = last == place

-- how many spots the entries of a kind in front are of, behind one of this spot
abbrev pub places_in : (kind : ℕ) → Option ℕ → List Entry → ℕ
places_in kind last [] = 0
places_in kind last (entry ∷ entries) =
    if entry.kind == kind then (if is_at last entry.spot then 0 else 1) + places_in kind (Some entry.spot) entries else 0

-- a rank where a kind begins, from a place on, behind an entry of this kind
abbrev pub ranks_from : Option ℕ → (start : ℕ) → List Entry → List Rank
ranks_from last start [] = []
ranks_from last start (entry ∷ entries) =
    (if is_at last entry.kind then [] else record { places = record { 0 = places_in entry.kind None (entry ∷ entries) }; start = start } ∷ [])
    ++ ranks_from (Some entry.kind) (start + 1) entries

-- more places before fewer ones, and of as many the one that begins before
abbrev pub rank_cmp : Rank → Rank → Ordering
rank_cmp = rank_ord.ghosts.cmp

-- the ranks of entries, ascending
pub record AreRanks (order : List Entry) (ranks : List Rank) : Type 0 where
  pub same : IsPermutation (ranks_from None 0 order) ranks
  pub sorted : IsSorted rank_cmp ranks
