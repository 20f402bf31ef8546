-- Lists of nodes whose numbers fall from each node to its parts.
use Rattle.std.specs.Prelude.{◌≡◌, ℕ, ◌+◌, ◌<◌, List, Some, slice_get}
use Rattle.vx_bdd_tools.specs.declared.node.Node.{Node}

pub record IsFalling (nodes : List Node) : Type 0 where
  pub low : (place : ℕ) (node : Node) → slice_get nodes place ≡ Some node → node.low < place + 2
  pub high : (place : ℕ) (node : Node) → slice_get nodes place ≡ Some node → node.high < place + 2
