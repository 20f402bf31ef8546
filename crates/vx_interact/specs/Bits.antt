-- The options on which sets depend as the bits of one number, bit i for option i.
use Rattle.std.specs.Prelude.{◌≡◌, ◌≢◌, ℕ, ◌≤◌, Bool, true, List, nat_eq, max}
use Rattle.std.specs.Int.{bit_at}
use Rattle.vx_list.specs.Places.{item_or}
use Rattle.vx_space.specs.Under.{Depends}
use Rattle.vx_bdd_tools.specs.declared.node.Node.{Node}
use Rattle.vx_bdd_tools.specs.Nodes.{holds}

abbrev pub has_bit : ℕ → ℕ → Bool
has_bit bits i = nat_eq (bit_at bits i) 1

-- the bits are those of the options on which the set depends
pub record HasOptions (set : List Bool → Bool) (bits : ℕ) : Type 0 where
  pub each : (i : ℕ) → has_bit bits i ≡ true → Depends set i
  pub all : (i : ℕ) → Depends set i → has_bit bits i ≡ true

-- each number, also one past the list, has the options of its set
pub record AreOptionBits (nodes : List Node) (bits : List ℕ) : Type 0 where
  pub each : (k : ℕ) → HasOptions (holds nodes k) (item_or bits k 0)

-- the set depends on no option from a number on
pub record IsFreeFrom (set : List Bool → Bool) (options : ℕ) : Type 0 where
  pub free : (i : ℕ) → options ≤ i → Depends set i → ⊥

-- the bits of both parts, and one more
pub record IsWithOwn (option low high bits : ℕ) : Type 0 where
  pub own : has_bit bits option ≡ true
  pub others : (i : ℕ) → i ≢ option → bit_at bits i ≡ max (bit_at low i) (bit_at high i)
