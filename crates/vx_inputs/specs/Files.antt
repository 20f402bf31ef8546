-- A file that was read.
use Rattle.std.specs.Prelude.{IfSome, List, Option, length, take, ℕ, ◌+◌, ◌≡◌, ◌≤◌}
use Rattle.vx_io.specs.Held.{Held, contents}
use Rattle.vx_pool.specs.Place.{IsBytes}

-- these are the bytes of a file, for which there was so much room
pub record WasRead (held : Option Held) (room : ℕ) (place bytes : List ℕ) : Type 0 where
  pub fits : length bytes ≤ room
  pub are_bytes : IsBytes bytes
  pub told : IfSome held (λ files. bytes ≡ take (room + 1) (contents files place))
