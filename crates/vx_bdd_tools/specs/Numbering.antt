-- The numbering of a report: from each root in order the low part is numbered, then the high part, then the node itself, passing over what is numbered.
use Rattle.std.specs.Prelude.{◌≡◌, ℕ, ◌+◌, ◌<◌, ◌≤◌, Bool, List, [], ◌∷◌, length, Some, suc}
use Rattle.vx_bdd_tools.specs.declared.node.Node.{Node}
use Rattle.vx_bdd_tools.specs.Nodes.{node_of, holds, IsReducedList}

-- where the numbers below n are given, numbering from k gives those below m
pub data Numbers (nodes : List Node) : ℕ → ℕ → ℕ → Type 0 where
  given : (n k : ℕ) → k < n → Numbers nodes n k n
  made : (n k between : ℕ) (node : Node) → n ≤ k → node_of nodes k ≡ Some node → Numbers nodes n node.low between → Numbers nodes between node.high k → Numbers nodes n k (suc k)

-- where the numbers below n are given, numbering from the roots in order gives those below m
pub data NumbersAll (nodes : List Node) : ℕ → List ℕ → ℕ → Type 0 where
  none : (n : ℕ) → NumbersAll nodes n [] n
  first : (n root between : ℕ) (roots : List ℕ) (m : ℕ) → Numbers nodes n root between → NumbersAll nodes between roots m → NumbersAll nodes n (root ∷ roots) m

-- the list is reduced and ordered, its roots are numbered as the nodes stand, and each node is used
pub record IsNumbered (options : ℕ) (nodes : List Node) (roots : List ℕ) : Type 0 where
  pub reduced : IsReducedList options nodes
  pub numbered : NumbersAll nodes 2 roots (length nodes + 2)

-- each number of a list holds the set beside it
abbrev pub HoldAll : List Node → List ℕ → List (List Bool → Bool) → Type 0
HoldAll nodes [] [] = Unit {0}
HoldAll nodes (root ∷ roots) (set ∷ sets) = ((c : List Bool) → holds nodes root c ≡ set c) × HoldAll nodes roots sets
HoldAll nodes [] (set ∷ sets) = ⊥
HoldAll nodes (root ∷ roots) [] = ⊥
