-- Marks for places.
use Rattle.std.specs.Prelude.{◌≡◌, ℕ, List, Bool, false, get_or}
use Rattle.vx_pool.specs.Instructions.{is_start}

-- marks of the places from 0 on, of which those of a list are marked, and none past the last mark
unfoldable pub AreMarks : List Bool → List ℕ → Type 0
AreMarks marks places = (place : ℕ) → get_or marks place false ≡ is_start places place
