-- The stamps of marks: beside each id the number of the compaction that marked it last.
use Rattle.std.specs.Prelude.{ℕ, ◌≤◌, Bool, List, nat_eq, slice_index_or}

-- the id has the stamp of a compaction
abbrev pub has_stamp : List ℕ → ℕ → ℕ → Bool
has_stamp stamps current id = nat_eq (slice_index_or stamps id 0) current

-- no stamp is of a later compaction
pub record AreUpTo (current : ℕ) (stamps : List ℕ) : Type 0 where
  pub each : (id : ℕ) → slice_index_or stamps id 0 ≤ current
