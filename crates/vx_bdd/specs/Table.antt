-- The table's map from nodes to ids, and what a growing table keeps.
use Rattle.std.specs.Prelude.{◌≡◌, ℕ, ◌<◌, ◌≤◌, Bool, true, List, Option, Some, None, slice_index_or, if◌then◌else◌}
use Rattle.vx_space.specs.Config.{value_of}
use Rattle.std.specs.HashMap.{HashMap, get}
use Rattle.vx_bdd.specs.declared.node.Node.{Node}
use Rattle.vx_bdd.specs.contracts.node.NodePartialEq.TheImpl as node_eq
use Rattle.vx_bdd.specs.Diagram.{node_at, is_stored, level, reaches}

-- the id of a node
abbrev pub id_of : {S : Type 0} → HashMap Node ℕ S → Node → Option ℕ
id_of ids node = get node_eq.ghosts.eq ids node

-- the map has just the ids of the nodes
pub record IsIndex {S : Type 0} (slots : List (Option Node)) (ids : HashMap Node ℕ S) : Type 0 where
  pub sound : (node : Node) (id : ℕ) → id_of ids node ≡ Some id → node_at slots id ≡ Some node
  pub complete : (id : ℕ) (node : Node) → node_at slots id ≡ Some node → id_of ids node ≡ Some id

-- stored ids keep what they have
pub record Grows (old new : List (Option Node)) : Type 0 where
  pub kept : (id : ℕ) → is_stored old id ≡ true → slice_index_or new id None ≡ slice_index_or old id None

-- the id is stored, asks no option below a level, and its set is this
pub record Stands (options : ℕ) (slots : List (Option Node)) (from id : ℕ) (set : List Bool → Bool) : Type 0 where
  pub stored : is_stored slots id ≡ true
  pub above : from ≤ level slots options id
  pub reaches : (c : List Bool) → reaches slots options id c ≡ set c

-- the two parts of an id's set, with an option off and on
pub record AreParts (options : ℕ) (slots : List (Option Node)) (id option low high : ℕ) : Type 0 where
  pub low_stored : is_stored slots low ≡ true
  pub high_stored : is_stored slots high ≡ true
  pub low_later : option < level slots options low
  pub high_later : option < level slots options high
  pub reaches : (c : List Bool) → reaches slots options id c ≡ (if value_of c option then reaches slots options high c else reaches slots options low c)

-- a configuration goes from a node to an id that is stored, asks a later option, and holds it just where the node does
pub record IsStep (options : ℕ) (slots : List (Option Node)) (at : ℕ) (c : List Bool) (next : ℕ) : Type 0 where
  pub stored : is_stored slots next ≡ true
  pub later : level slots options at < level slots options next
  pub at_most : level slots options next ≤ options
  pub reaches : reaches slots options at c ≡ reaches slots options next c
