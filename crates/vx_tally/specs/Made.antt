-- Nodes that are being made.
use Rattle.std.specs.Prelude.{◌≡◌, ℕ, ◌+◌, ◌<◌, ◌≤◌, ◌++◌, Bool, List, ◌⊎◌, length, Option, Some, None, slice_get, if◌then◌else◌, min}
use Rattle.vx_space.specs.Config.{value_of}
use Rattle.vx_tally.specs.declared.node.Edge.{Edge}
use Rattle.vx_tally.specs.declared.node.TallyNode.{TallyNode}
use Rattle.vx_tally.specs.Tally.{node_at, edge_at, sum_of, level, IsNode, AreNodes}

-- a `Made` as contracts see it
pub record MadeView : Type 0 where
  pub options : ℕ
  pub nodes : List TallyNode

-- nodes were put behind those that there were
pub record IsGrown (old new : MadeView) : Type 0 where
  pub options : new.options ≡ old.options
  pub more : List TallyNode
  pub grows : new.nodes ≡ old.nodes ++ more
  pub nodes : AreNodes new.options new.nodes

-- the node stands at a place
pub record IsPut (node : TallyNode) (old new : MadeView) (place : ℕ) : Type 0 where
  pub grown : IsGrown old new
  pub here : node_at new.nodes place ≡ Some node

-- the edge stands for one of two, by an option before those that they ask
pub record IsMade (option : ℕ) (low high : Edge) (old new : MadeView) (edge : Edge) : Type 0 where
  pub grown : IsGrown old new
  pub given : edge.place ≤ length new.nodes
  pub later : option ≤ level new.options new.nodes edge.place
  pub least : edge.more ≡ min low.more high.more
  pub number : (c : List Bool) → edge_at new.nodes edge c ≡ (if value_of c option then edge_at old.nodes high c else edge_at old.nodes low c)

-- a place says what another one of other nodes says
pub record IsCopy (from : List TallyNode) (made : MadeView) (place copy : ℕ) : Type 0 where
  pub given : copy ≤ length made.nodes
  pub later : level made.options from place ≤ level made.options made.nodes copy
  pub number : (c : List Bool) → sum_of made.nodes copy c ≡ sum_of from place c

-- each copy that is noted is one
pub record AreCopies (from : List TallyNode) (made : MadeView) (copies : List (Option ℕ)) : Type 0 where
  pub each : (k copy : ℕ) → slice_get copies k ≡ Some (Some copy) → IsCopy from made k copy

-- a place was copied
pub record IsCopied (from : List TallyNode) (place : ℕ) (old new : MadeView) (noted : List (Option ℕ)) (place_there : ℕ) : Type 0 where
  pub grown : IsGrown old new
  pub copies : AreCopies from new noted
  pub copy : IsCopy from new place place_there

-- at most this copy was noted
pub record AddsCopy (place copy : ℕ) (old new : List (Option ℕ)) : Type 0 where
  pub each : (k other : ℕ) → slice_get new k ≡ Some (Some other) → (slice_get old k ≡ Some (Some other)) ⊎ ((k ≡ place) × (other ≡ copy))
