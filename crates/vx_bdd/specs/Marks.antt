-- What is below some ids, and what a compaction keeps.
use Rattle.std.specs.Prelude.{◌≡◌, ◌≢◌, ℕ, ◌≤◌, Bool, true, false, List, [], ◌∷◌, Option, Some, None, ◌⊎◌, if◌then◌else◌, slice_index_or, Contains}
use Rattle.std.specs.HashMap.{HashMap}
use Rattle.vx_bdd.specs.declared.node.Node.{Node}
use Rattle.vx_bdd.specs.declared.marks.Marks.{Marks}
use Rattle.vx_bdd.specs.contracts.node.NodePartialEq.TheImpl as node_eq
use Rattle.vx_bdd.specs.Diagram.{node_at, is_stored}
use Rattle.vx_bdd.specs.Table.{id_of}
use Rattle.vx_bdd.specs.Stamps.{has_stamp}

-- the id has the mark of the current compaction
abbrev pub is_marked : Marks → ℕ → Bool
is_marked marks id = has_stamp marks.stamps.items marks.current id

-- the id is a top, or a part of a node below it
pub data Below (slots : List (Option Node)) (top : ℕ) : ℕ → Type 0 where
  here : Below slots top top
  low : (id : ℕ) (node : Node) → Below slots top id → node_at slots id ≡ Some node → Below slots top node.low
  high : (id : ℕ) (node : Node) → Below slots top id → node_at slots id ≡ Some node → Below slots top node.high

-- marked ids are stored, and the parts of a marked node are marked
pub record IsClosed (slots : List (Option Node)) (has : ℕ → Bool) : Type 0 where
  pub stored : (id : ℕ) → has id ≡ true → is_stored slots id ≡ true
  pub low : (id : ℕ) (node : Node) → has id ≡ true → node_at slots id ≡ Some node → has node.low ≡ true
  pub high : (id : ℕ) (node : Node) → has id ≡ true → node_at slots id ≡ Some node → has node.high ≡ true

-- the new marks are the old ones and some of what is below an id
pub record AddsBelow (slots : List (Option Node)) (id : ℕ) (old new : ℕ → Bool) : Type 0 where
  pub kept : (x : ℕ) → old x ≡ true → new x ≡ true
  pub below : (x : ℕ) → new x ≡ true → (old x ≡ true) ⊎ Below slots id x

-- each id of the list is marked
abbrev pub AreMarked : (ℕ → Bool) → List ℕ → Type 0
AreMarked has [] = Unit {0}
AreMarked has (id ∷ ids) = (has id ≡ true) × AreMarked has ids

-- the marks are just never, always and what is below the roots
pub record IsMarking (slots : List (Option Node)) (roots : List ℕ) (has : ℕ → Bool) : Type 0 where
  pub closed : IsClosed slots has
  pub never : has 0 ≡ true
  pub always : has 1 ≡ true
  pub roots_marked : AreMarked has roots
  pub below : (x : ℕ) → has x ≡ true → (x ≡ 0) ⊎ (x ≡ 1) ⊎ ((root : ℕ) × Contains roots root × Below slots root x)

-- the table with its marked ids alone
pub record KeepsMarked (has : ℕ → Bool) (old new : List (Option Node)) : Type 0 where
  pub slots : (x : ℕ) → slice_index_or new x None ≡ (if has x then slice_index_or old x None else None)

-- each id of the list is stored
abbrev pub AreStored : List (Option Node) → List ℕ → Type 0
AreStored slots [] = Unit {0}
AreStored slots (id ∷ ids) = (is_stored slots id ≡ true) × AreStored slots ids

-- just the ids of a list that have no mark
pub record AreUnmarked (has : ℕ → Bool) (ids unmarked : List ℕ) : Type 0 where
  pub sound : (x : ℕ) → Contains unmarked x → has x ≡ false
  pub all : (x : ℕ) → Contains ids x → has x ≡ false → Contains unmarked x

-- none of the ids is never or always
pub record AreNodes (ids : List ℕ) : Type 0 where
  pub inner : (x : ℕ) → Contains ids x → 2 ≤ x

-- the slots of some ids are empty, and the others are the same
pub record IsDropped (ids : List ℕ) (old new : List (Option Node)) : Type 0 where
  pub gone : (x : ℕ) → Contains ids x → slice_index_or new x None ≡ None
  pub others : (x : ℕ) → (slice_index_or new x None ≡ slice_index_or old x None) ⊎ ((slice_index_or new x None ≡ None) × Contains ids x)

-- one slot is empty, and the others are the same
pub record SlotsWithout (id : ℕ) (old new : List (Option Node)) : Type 0 where
  pub empty : slice_index_or new id None ≡ None
  pub others : (x : ℕ) → x ≢ id → slice_index_or new x None ≡ slice_index_or old x None

-- the map without a node, if there is one
abbrev pub IndexWithout : {S : Type 0} → Option Node → HashMap Node ℕ S → HashMap Node ℕ S → Type 0
IndexWithout None old new = (q : Node) → id_of new q ≡ id_of old q
IndexWithout (Some node) old new = (q : Node) → id_of new q ≡ (if node_eq.ghosts.eq node q then None else id_of old q)
