-- Which nodes of the tree groups reach, and what a sweep keeps.
use Rattle.std.specs.Prelude.{◌≡◌, ℕ, Bool, true, List, [], ◌∷◌, length, Option, Some, None, ◌⊎◌, Contains, zero, suc}
use Rattle.vx_group.specs.declared.callers.Caller.{Caller}
use Rattle.vx_group.specs.Callers.{node_at, AreNodes}
use Rattle.vx_group.specs.Group.{GroupView}

-- the node of a number is a caller, or the caller of one, and so on down
pub data Reaches {S I : Type 0} (tree : List (Option (Caller S I))) (caller : Option ℕ) : ℕ → Type 0 where
  first : (n : ℕ) → caller ≡ Some n → Reaches tree caller n
  further : (k : ℕ) (node : Caller S I) (n : ℕ) → Reaches tree caller k → node_at tree k ≡ Some node → node.caller ≡ Some n → Reaches tree caller n

-- a group of the list reaches the node
pub record IsReached {S I : Type 0} (tree : List (Option (Caller S I))) (groups : List (GroupView S I)) (n : ℕ) : Type 0 where
  pub group : GroupView S I
  pub among : Contains groups group
  pub reaches : Reaches tree group.caller n

-- the tree keeps just the nodes that the groups reach, under their numbers
pub record IsSwept {S I : Type 0} (old new : List (Option (Caller S I))) (groups : List (GroupView S I)) : Type 0 where
  pub kept : (n : ℕ) → IsReached old groups n → node_at new n ≡ node_at old n
  pub dropped : (n : ℕ) (node : Caller S I) → node_at new n ≡ Some node → IsReached old groups n × (node_at old n ≡ Some node)

-- the callers of each group, down to the lowest frame, are nodes of the tree
abbrev pub StandIn : {S I : Type 0} → List (Option (Caller S I)) → List (GroupView S I) → Type 0
StandIn tree [] = Unit {0}
StandIn tree (group ∷ groups) = AreNodes tree (length group.below) group.caller × StandIn tree groups

abbrev pub IsMarked : (ℕ → Bool) → Option ℕ → Type 0
IsMarked has None = Unit {0}
IsMarked has (Some n) = has n ≡ true

-- the caller of each marked node is marked
pub record IsClosed {S I : Type 0} (tree : List (Option (Caller S I))) (has : ℕ → Bool) : Type 0 where
  pub callers : (n : ℕ) (node : Caller S I) → has n ≡ true → node_at tree n ≡ Some node → IsMarked has node.caller

-- the new marks are the old ones and some of what a caller reaches
pub record AddsReached {S I : Type 0} (tree : List (Option (Caller S I))) (caller : Option ℕ) (old new : ℕ → Bool) : Type 0 where
  pub kept : (x : ℕ) → old x ≡ true → new x ≡ true
  pub reached : (x : ℕ) → new x ≡ true → (old x ≡ true) ⊎ Reaches tree caller x

-- the caller of the group at a place
abbrev pub caller_at : {S I : Type 0} → List (GroupView S I) → ℕ → Option ℕ
caller_at [] k = None
caller_at (group ∷ groups) zero = group.caller
caller_at (group ∷ groups) (suc k) = caller_at groups k
