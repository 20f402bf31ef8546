-- Numbers at configurations as diagrams whose edges have numbers: the number is the sum along the way.
use Rattle.std.specs.Prelude.{◌≡◌, ℕ, ◌+◌, ◌<◌, ◌≤◌, Bool, List, length, Option, Some, None, slice_get, if◌then◌else◌, zero, suc, min}
use Rattle.vx_space.specs.Config.{value_of}
use Rattle.vx_tally.specs.declared.node.Edge.{Edge}
use Rattle.vx_tally.specs.declared.node.TallyNode.{TallyNode}

-- the node at a place: place 0 is the end, and the nodes of a list have the places from 1 on
abbrev pub node_at : List TallyNode → ℕ → Option TallyNode
node_at nodes zero = None
node_at nodes (suc k) = slice_get nodes k

-- the edge that a configuration takes from a node: from the end it stays there, and adds nothing
abbrev pub edge_of : Option TallyNode → List Bool → Edge
edge_of None c = record { place = 0; more = 0 }
edge_of (Some node) c = if value_of c node.option then node.high else node.low

-- what a configuration adds from a place on, in so many steps
abbrev pub sum_in : ℕ → List TallyNode → ℕ → List Bool → ℕ
sum_in zero nodes place c = 0
sum_in (suc steps) nodes place c = (edge_of (node_at nodes place) c).more + sum_in steps nodes (edge_of (node_at nodes place) c).place c

-- what it adds in all: as many steps as the place is high are enough, since places fall
unfoldable pub sum_of : List TallyNode → ℕ → List Bool → ℕ
sum_of nodes place c = sum_in place nodes place c

-- what it adds by an edge and from there on
abbrev pub edge_at : List TallyNode → Edge → List Bool → ℕ
edge_at nodes edge c = edge.more + sum_of nodes edge.place c

-- the option that a place asks, and the number of options at the end
abbrev pub option_of : ℕ → Option TallyNode → ℕ
option_of options None = options
option_of options (Some node) = node.option

abbrev pub level : ℕ → List TallyNode → ℕ → ℕ
level options nodes place = option_of options (node_at nodes place)

-- a node behind k others: it asks an option, its edges lead to lesser places that ask later options, one of them adds nothing, and they differ
pub record IsNode (options : ℕ) (nodes : List TallyNode) (k : ℕ) (node : TallyNode) : Type 0 where
  pub in_range : node.option < options
  pub low_given : node.low.place ≤ k
  pub high_given : node.high.place ≤ k
  pub low_later : node.option < level options nodes node.low.place
  pub high_later : node.option < level options nodes node.high.place
  pub least : min node.low.more node.high.more ≡ 0
  pub differ : node.low ≡ node.high → ⊥

-- the list is ordered and reduced, with the lesser number taken out of each node, and has no node twice
pub record AreNodes (options : ℕ) (nodes : List TallyNode) : Type 0 where
  pub each : (k : ℕ) (node : TallyNode) → slice_get nodes k ≡ Some node → IsNode options nodes k node
  pub once : (j k : ℕ) (node : TallyNode) → slice_get nodes j ≡ Some node → slice_get nodes k ≡ Some node → j ≡ k

-- a `Tally` as contracts see it
pub record TallyView : Type 0 where
  pub nodes : List TallyNode
  pub root : Edge

-- the number at a configuration
abbrev pub number_at : TallyView → List Bool → ℕ
number_at tally c = edge_at tally.nodes tally.root c

-- a tally over so many options
pub record IsTally (options : ℕ) (tally : TallyView) : Type 0 where
  pub nodes : AreNodes options tally.nodes
  pub root_given : tally.root.place ≤ length tally.nodes
