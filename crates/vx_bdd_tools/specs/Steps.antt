-- What is numbered on the way to a listing.
use Rattle.std.specs.Prelude.{◌≡◌, ℕ, ◌+◌, ◌<◌, ◌≤◌, ◌⊎◌, Bool, true, List, length, Option, Some, ◌++◌, suc}
use Rattle.vx_space.specs.Under.{IsFree, IsLeastOption}
use Rattle.vx_space.specs.Sets.{Sets}
use Rattle.vx_bdd_tools.specs.declared.node.Node.{Node}
use Rattle.vx_bdd_tools.specs.Nodes.{holds, level, IsReducedList}
use Rattle.vx_bdd_tools.specs.Numbering.{Numbers}

-- the set of an id depends on no option below i
pub record IsFreeBelow {I : Type 0} (sets : Sets I) (id : I) (i : ℕ) : Type 0 where
  pub free : (j : ℕ) → j < i → IsFree (sets.test id) j

-- number k of a list is that of a known id, whose set it holds and whose least option it asks
pub record IsGiven {I : Type 0} (sets : Sets I) (nodes : List Node) (id : I) (k : ℕ) : Type 0 where
  pub known : sets.is_known id ≡ true
  pub inner : 2 ≤ k
  pub below : k < length nodes + 2
  pub hold : (c : List Bool) → holds nodes k c ≡ sets.test id c
  pub least : IsLeastOption (sets.test id) (level sets.options nodes k)

-- the list is reduced and ordered, each number that an id has is given, and each node is the number of an id
pub record IsListed {I : Type 0} (sets : Sets I) (nodes : List Node) (number : I → Option ℕ) : Type 0 where
  pub reduced : IsReducedList sets.options nodes
  pub given : (id : I) (k : ℕ) → number id ≡ Some k → IsGiven sets nodes id k
  pub all : (place : ℕ) → place < length nodes → (id : I) × (number id ≡ Some (suc (suc place)))

-- number k of a list holds the set of an id, and asks no option below those on which the set depends
pub record IsNumberOf {I : Type 0} (sets : Sets I) (nodes : List Node) (id : I) (k : ℕ) : Type 0 where
  pub below : k < length nodes + 2
  pub hold : (c : List Bool) → holds nodes k c ≡ sets.test id c
  pub later : (i : ℕ) → i ≤ sets.options → IsFreeBelow sets id i → i ≤ level sets.options nodes k

-- the id has number k after nodes were added for it and its parts, which depend on no option below `first`
pub record IsNumberingStep {I : Type 0} (sets : Sets I) (first : ℕ) (id : I) (old new : List Node) (number number' : I → Option ℕ) (k : ℕ) : Type 0 where
  pub listed : IsListed sets new number'
  pub more : List Node
  pub grows : new ≡ old ++ more
  pub number_of : IsNumberOf sets new id k
  pub numbers : Numbers new (length old + 2) k (length new + 2)
  pub adds : (x : I) (j : ℕ) → number' x ≡ Some j → (number x ≡ Some j) ⊎ IsFreeBelow sets x first
