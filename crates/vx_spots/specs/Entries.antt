-- What spots lack, by its kind (own).
use Rattle.std.specs.List.Sorted.{IsPermutation, IsSorted}
use Rattle.std.specs.Prelude.{Bool, List, [], false, fold, if◌then◌else◌, slice_get, unwrap_or, ℕ, ◌++◌, ◌+◌, ◌∷◌}
use Rattle.std.specs.declared.cmp.Ordering.{Ordering}
use Rattle.vx_may_end.specs.declared.lack.Lack.{Lack}
use Rattle.vx_may_end.specs.declared.lack.Spot.{Spot}
use Rattle.vx_java.specs.Checks.{same_bool}
use Rattle.vx_names.specs.Names.{place_of, with_name}
use Rattle.vx_spots.specs.contracts.entries.EntryOrd.TheImpl as entry_ord
use Rattle.vx_spots.specs.declared.entries.Entry.{Entry}

-- ---- kinds

-- two lacks are of one kind if word and name are the same
abbrev pub key_of : Lack → List ℕ
key_of lack = lack.word ∷ lack.what

abbrev pub with_kind : List (List ℕ) → Lack → List (List ℕ)
with_kind kinds lack = with_name kinds (key_of lack)

abbrev pub with_kinds : List (List ℕ) → Spot → List (List ℕ)
with_kinds kinds spot = fold with_kind kinds spot.lacks

-- the kinds of what spots lack, each once, in the order in which they come first
abbrev pub kinds_of : List Spot → List (List ℕ)
kinds_of spots = fold with_kinds [] spots

-- the place of a kind; each that is asked for is there
abbrev pub kind_of : List (List ℕ) → Lack → ℕ
kind_of kinds lack = unwrap_or (place_of kinds (key_of lack)) 0

-- ---- entries

-- what a spot lacks, from a number on
abbrev pub entries_from : List (List ℕ) → (spot number : ℕ) → List Lack → List Entry
entries_from kinds spot number [] = []
entries_from kinds spot number (lack ∷ lacks) =
    record { kind = kind_of kinds lack; spot = spot; lack = number } ∷ entries_from kinds spot (number + 1) lacks

abbrev pub entries_of : List (List ℕ) → (wanted : Bool) → (number : ℕ) → Spot → List Entry
entries_of kinds wanted number spot = if wanted then entries_from kinds number 0 spot.lacks else []

-- a method is marked as reached
abbrev pub is_reached : List Bool → (method : ℕ) → Bool
is_reached reached method = unwrap_or (slice_get reached method) false

-- what the spots lack, from a number on, whose methods are reached, or the others
abbrev pub entries_in : List (List ℕ) → List Bool → (wanted : Bool) → (number : ℕ) → List Spot → List Entry
entries_in kinds reached wanted number [] = []
entries_in kinds reached wanted number (spot ∷ spots) =
    entries_of kinds (same_bool (is_reached reached spot.method.0) wanted) number spot ++ entries_in kinds reached wanted (number + 1) spots

-- by their kinds, then by their spots, then by their places there
abbrev pub entry_cmp : Entry → Entry → Ordering
entry_cmp = entry_ord.ghosts.cmp

-- the same entries, ascending
pub record IsOrder (found order : List Entry) : Type 0 where
  pub same : IsPermutation found order
  pub sorted : IsSorted entry_cmp order
