-- Sets and edges with one option off, and with it on.
use Rattle.std.specs.Prelude.{◌≡◌, ℕ, ◌+◌, ◌<◌, ◌≤◌, ◌⊎◌, ◌^◌, Bool, true, false, List, length}
use Rattle.vx_space.specs.Config.{value_of}
use Rattle.vx_space.specs.Sets.{Sets}
use Rattle.vx_bdd_tools.specs.Steps.{IsFreeBelow}
use Rattle.vx_tally.specs.declared.node.Edge.{Edge}
use Rattle.vx_tally.specs.declared.node.TallyNode.{TallyNode}
use Rattle.vx_tally.specs.declared.parts.Division.{Division}
use Rattle.vx_tally.specs.declared.parts.Holding.{Holding}
use Rattle.vx_tally.specs.declared.parts.Holding.TheVariants.{Neither, First, Second, Both}
use Rattle.vx_tally.specs.Tally.{edge_at, sum_of, level}

-- the part of a set with an option at a value, which depends on no option up to that one
pub record IsHalf {I : Type 0} (sets : Sets I) (id : I) (option : ℕ) (value : Bool) (half : I) : Type 0 where
  pub known : sets.is_known half ≡ true
  pub free : IsFreeBelow sets half (option + 1)
  pub test : (c : List Bool) → value_of c option ≡ value → sets.test id c ≡ sets.test half c

-- the edge that stands for a place with an option at a value
pub record IsPart (options : ℕ) (nodes : List TallyNode) (place : ℕ) (option : ℕ) (value : Bool) (part : Edge) : Type 0 where
  pub given : part.place ≤ length nodes
  pub later : option < level options nodes part.place
  pub number : (c : List Bool) → value_of c option ≡ value → edge_at nodes part c ≡ sum_of nodes place c

-- the edge that stands for another with an option at a value: it leads to a later place, and adds as much where that is below 2 ^ 64
pub record IsSide (options : ℕ) (nodes : List TallyNode) (edge : Edge) (option : ℕ) (value : Bool) (side : Edge) : Type 0 where
  pub given : side.place ≤ length nodes
  pub later : option < level options nodes side.place
  pub number : (c : List Bool) → value_of c option ≡ value → edge_at nodes edge c < 2 ^ 64 → edge_at nodes side c ≡ edge_at nodes edge c

-- the least option on which one of two sets depends
pub record IsLeastOfBoth {I : Type 0} (sets : Sets I) (a b : I) (option : ℕ) : Type 0 where
  pub in_range : option < sets.options
  pub first_free : IsFreeBelow sets a option
  pub second_free : IsFreeBelow sets b option
  pub greatest : (i : ℕ) → IsFreeBelow sets a i → IsFreeBelow sets b i → i ≤ option

-- which of two sets is to be asked, the first before the second: none has a configuration, one of them tells all, or both are divided
abbrev pub IsHolding : {I : Type 0} → Sets I → I → I → Holding → Type 0
IsHolding sets a b Neither = (a ≡ sets.never) × (b ≡ sets.never)
IsHolding sets a b First = (b ≡ sets.never) ⊎ (a ≡ sets.always)
IsHolding sets a b Second = a ≡ sets.never
IsHolding sets a b (Both option) = IsLeastOfBoth sets a b option

-- a set and a place with the least option that one of them asks off, and with it on
pub record IsDivision {I : Type 0} (sets : Sets I) (nodes : List TallyNode) (set : I) (place : ℕ) (division : Division I) : Type 0 where
  pub in_range : division.option < sets.options
  pub from : (i : ℕ) → IsFreeBelow sets set i → i ≤ level sets.options nodes place → i ≤ division.option
  pub off : IsHalf sets set division.option false division.off
  pub on : IsHalf sets set division.option true division.on
  pub low : IsPart sets.options nodes place division.option false division.low
  pub high : IsPart sets.options nodes place division.option true division.high
