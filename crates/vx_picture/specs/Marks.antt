-- Marks of numbers.
use Rattle.std.specs.Prelude.{◌≡◌, ℕ, ◌<◌, Bool, false, List, length}
use Rattle.vx_list.specs.Places.{item_or}
use Rattle.vx_picture.specs.Pictures.{is_among}

abbrev pub has_mark : List Bool → ℕ → Bool
has_mark marks k = item_or marks k false

-- the numbers that are marked are those of a list, as far as there are places for them
pub record AreMarks (marks : List Bool) (numbers : List ℕ) : Type 0 where
  pub each : (k : ℕ) → k < length marks → has_mark marks k ≡ is_among numbers k
