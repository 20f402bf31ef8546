-- What a compaction leaves: never, always and what is below its roots, as a test that ends.
use Rattle.std.specs.Prelude.{◌≡◌, ℕ, Bool, true, false, List, [], ◌∷◌, Option, Some, None, ◌||◌, nat_eq, zero, suc}
use Rattle.vx_bdd.specs.declared.node.Node.{Node}
use Rattle.vx_bdd.specs.Diagram.{node_at, is_stored}

-- one of a node's parts has a property
abbrev pub has_part : (ℕ → Bool) → Option Node → Bool
has_part has None = false
has_part has (Some node) = has node.low || has node.high

-- the id is the top, or below it by at most so many steps
abbrev pub is_below : List (Option Node) → ℕ → ℕ → ℕ → Bool
is_below slots zero id top = nat_eq top id
is_below slots (suc steps) id top = nat_eq top id || has_part (λ part. is_below slots steps id part) (node_at slots top)

-- the id is never, always, or below one of the roots
abbrev pub is_under : List (Option Node) → ℕ → List ℕ → ℕ → Bool
is_under slots options [] id = nat_eq 0 id || nat_eq 1 id
is_under slots options (root ∷ roots) id = is_below slots options id root || is_under slots options roots id

-- the table has no id but these
pub record IsSwept (options : ℕ) (slots : List (Option Node)) (roots : List ℕ) : Type 0 where
  pub under : (id : ℕ) → is_stored slots id ≡ true → is_under slots options roots id ≡ true
