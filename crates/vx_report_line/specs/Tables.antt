-- Nodes that are known, as a set beside their list.
use Rattle.std.specs.Prelude.{◌≡◌, Bool, true, List, Contains}
use Rattle.std.specs.HashSet.{HashSet, contains}
use Rattle.vx_bdd_tools.specs.declared.node.Node.{Node}
use Rattle.vx_bdd_tools.specs.contracts.node.NodePartialEq.TheImpl as node_eq

abbrev pub has_node : {S : Type 0} → HashSet Node S → Node → Bool
has_node known node = contains node_eq.ghosts.eq known node

-- the set has just the nodes of the list
pub record IsSetOf {S : Type 0} (known : HashSet Node S) (nodes : List Node) : Type 0 where
  pub sound : (node : Node) → has_node known node ≡ true → Contains nodes node
  pub complete : (node : Node) → Contains nodes node → has_node known node ≡ true
