-- Which configurations a feature model allows.
use Rattle.std.specs.Prelude.{ℕ, ◌<◌, List, Bool, true, false, not, ◌&&◌, ◌||◌}
use Rattle.vx_space.specs.Config.{value_of}
use Rattle.vx_model.specs.Formula.{Formula, Formulas, Always, Never, Named, Not, And, Or, Implies, none, more}

-- whether a rule is true at a configuration
abbrev mutual
  pub truth : Formula → List Bool → Bool
  truth Always c = true
  truth Never c = false
  truth (Named option) c = value_of c option
  truth (Not f) c = not (truth f c)
  truth (And fs) c = all_true fs c
  truth (Or fs) c = any_true fs c
  truth (Implies f g) c = not (truth f c) || truth g c

  pub all_true : Formulas → List Bool → Bool
  all_true none c = true
  all_true (more f fs) c = truth f c && all_true fs c

  pub any_true : Formulas → List Bool → Bool
  any_true none c = false
  any_true (more f fs) c = truth f c || any_true fs c

-- each option that a rule names has a number below n
abbrev mutual
  pub NamesBelow : ℕ → Formula → Type 0
  NamesBelow n Always = Unit {0}
  NamesBelow n Never = Unit {0}
  NamesBelow n (Named option) = option < n
  NamesBelow n (Not f) = NamesBelow n f
  NamesBelow n (And fs) = AllNamesBelow n fs
  NamesBelow n (Or fs) = AllNamesBelow n fs
  NamesBelow n (Implies f g) = NamesBelow n f × NamesBelow n g

  pub AllNamesBelow : ℕ → Formulas → Type 0
  AllNamesBelow n none = Unit {0}
  AllNamesBelow n (more f fs) = NamesBelow n f × AllNamesBelow n fs
