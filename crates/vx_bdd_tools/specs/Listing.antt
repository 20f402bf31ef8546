-- The listing of some sets.
use Rattle.std.specs.Prelude.{◌≡◌, ℕ, ◌+◌, Bool, List, map, length, slice_get, Some, if◌then◌else◌}
use Rattle.vx_space.specs.Config.{value_of}
use Rattle.vx_space.specs.Sets.{Sets, IsSet}
use Rattle.vx_bdd_tools.specs.declared.node.Node.{Node}
use Rattle.vx_bdd_tools.specs.Nodes.{holds}
use Rattle.vx_bdd_tools.specs.Numbering.{IsNumbered, HoldAll}

-- the nodes and numbers of some sets: each number holds the set of its root, and the list is in the numbering
pub record IsListing {I : Type 0} (sets : Sets I) (ids : List I) (nodes : List Node) (roots : List ℕ) : Type 0 where
  pub hold : HoldAll nodes roots (map sets.test ids)
  pub numbered : IsNumbered sets.options nodes roots

-- no other list is a listing of the sets
pub record IsOnlyListing {I : Type 0} (sets : Sets I) (ids : List I) (nodes : List Node) (roots : List ℕ) : Type 0 where
  pub only : (other : List Node) (numbers : List ℕ) → IsListing sets ids other numbers → (other ≡ nodes) × (numbers ≡ roots)

-- the configurations of one set where an option is off, and those of another where it is on
abbrev pub choice : {I : Type 0} → Sets I → ℕ → I → I → List Bool → Bool
choice sets option low high c = if value_of c option then sets.test high c else sets.test low c

-- beside each number of a list of nodes, from never and always on, stands the id of the set that it holds
pub record AreSetsOf {I : Type 0} (sets : Sets I) (nodes : List Node) (ids : List I) : Type 0 where
  pub number : length ids ≡ length nodes + 2
  pub each : (k : ℕ) (id : I) → slice_get ids k ≡ Some id → IsSet sets id (holds nodes k)
