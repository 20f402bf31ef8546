-- Equal numbers, equal edges.
use Rattle.std.specs.Prelude.{◌≡◌, ℕ, ◌≤◌, Bool, List, length}
use Rattle.vx_tally.specs.declared.node.Edge.{Edge}
use Rattle.vx_tally.specs.declared.node.TallyNode.{TallyNode}
use Rattle.vx_tally.specs.Tally.{edge_at, AreNodes}

-- two edges into one list of nodes that have the same number at each configuration are one
abbrev pub EqualNumbersAreOneEdge : Type 0
EqualNumbersAreOneEdge = (options : ℕ) (nodes : List TallyNode) (e f : Edge) → AreNodes options nodes → e.place ≤ length nodes → f.place ≤ length nodes → ((c : List Bool) → edge_at nodes e c ≡ edge_at nodes f c) → e ≡ f
