-- Two lists of leaves that are merged.
use Rattle.std.specs.Prelude.{ℕ, ◌<◌, ◌≤◌}
use Rattle.vx_cond.specs.declared.leaves.Side.{Side}
use Rattle.vx_cond.specs.declared.leaves.Side.TheVariants.{First, Second, Neither}

-- of a list of n items from place i on and one of m items from place j on, this one has a next item
abbrev pub HasNext : (i n j m : ℕ) → Side → Type 0
HasNext i n j m First = i < n
HasNext i n j m Second = j < m
HasNext i n j m Neither = (n ≤ i) × (m ≤ j)
