-- Bytes without the one that ends a line.
use Rattle.std.specs.Prelude.{◌≢◌, ℕ, ◌<◌, List, length, slice_index}

-- no byte of the text ends a line
pub record HasNoEnd (text : List ℕ) : Type 0 where
  pub none : (k : ℕ) → k < length text → slice_index text k ≢ 10
