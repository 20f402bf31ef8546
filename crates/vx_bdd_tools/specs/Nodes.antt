-- Lists of nodes: the sets that their numbers hold, and the rules for each node. The numbers 0 and 1 are never and always, and the nodes of a list have the numbers from 2 on.
use Rattle.std.specs.Prelude.{◌≡◌, ◌≢◌, ℕ, ◌+◌, ◌<◌, Bool, List, length, Contains, Option, Some, None, slice_get, take, if◌then◌else◌, nat_eq, zero, suc}
use Rattle.vx_space.specs.Config.{value_of}
use Rattle.vx_bdd_tools.specs.declared.node.Node.{Node}

-- the node with a number
abbrev pub node_of : List Node → ℕ → Option Node
node_of nodes zero = None
node_of nodes (suc zero) = None
node_of nodes (suc (suc place)) = slice_get nodes place

-- the number to which a configuration goes from a number: never, always and unknown numbers go nowhere
abbrev pub child : Option Node → ℕ → List Bool → ℕ
child None k c = k
child (Some node) k c = if value_of c node.option then node.high else node.low

-- where it is after some steps, by the node of each number
abbrev pub walk_by : (ℕ → Option Node) → ℕ → ℕ → List Bool → ℕ
walk_by node_of zero k c = k
walk_by node_of (suc steps) k c = walk_by node_of steps (child (node_of k) k c) c

abbrev pub walk : List Node → ℕ → ℕ → List Bool → ℕ
walk nodes steps k c = walk_by (node_of nodes) steps k c

-- whether number k holds a configuration: it comes to always, in as many steps as the number says, since numbers fall
abbrev pub holds : List Node → ℕ → List Bool → Bool
holds nodes k c = nat_eq (walk nodes k k c) 1

-- the option that a number asks, and the number of options at never and always
abbrev pub option_of : ℕ → Option Node → ℕ
option_of options None = options
option_of options (Some node) = node.option

abbrev pub level : ℕ → List Node → ℕ → ℕ
level options nodes k = option_of options (node_of nodes k)

-- a node may follow those before it: it asks an option, its parts have lesser numbers, differ and ask later options, and it is new
pub record IsNextNode (options : ℕ) (before : List Node) (node : Node) : Type 0 where
  pub in_range : node.option < options
  pub low_given : node.low < length before + 2
  pub high_given : node.high < length before + 2
  pub differ : node.low ≢ node.high
  pub low_later : node.option < level options before node.low
  pub high_later : node.option < level options before node.high
  pub is_new : ¬ Contains before node

-- each node may follow those before it: the list is reduced and ordered
pub record IsReducedList (options : ℕ) (nodes : List Node) : Type 0 where
  pub each : (place : ℕ) (node : Node) → slice_get nodes place ≡ Some node → IsNextNode options (take place nodes) node
