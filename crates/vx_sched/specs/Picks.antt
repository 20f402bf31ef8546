-- The first key of a list.
use Rattle.std.specs.Prelude.{◌≢◌, ◌<◌, ℕ, List, [], length, slice_index_or}
use Rattle.std.specs.declared.cmp.Ordering.TheVariants.{Less}
use Rattle.vx_value.specs.declared.key.KeyPart.{KeyPart}
use Rattle.vx_value.specs.Key.{key_cmp}

-- no key of the list is before the one at this place
pub record IsFirstKey (keys : List (List KeyPart)) (place : ℕ) : Type 0 where
  pub in_range : place < length keys
  pub first : (other : ℕ) → other < length keys → key_cmp (slice_index_or keys other []) (slice_index_or keys place []) ≢ Less
