-- What is said of a set among the configurations of a scope.
use Rattle.std.specs.Prelude.{◌≡◌, ℕ, ◌≤◌, Bool, true, false, not, ◌&&◌, ◌||◌, List, length, Option}
use Rattle.vx_space.specs.Sets.{Sets}
use Rattle.vx_model.specs.Truth.{truth}
use Rattle.vx_explain.specs.declared.rule.Rule.{Rule}
use Rattle.vx_explain.specs.Candidates.{least_rule}
use Rattle.vx_explain.specs.Rules.{AreOf, formula_of, terms_in}

-- the least of the rules for a set of which only the configurations in a scope count; none where each of them has more than 32 terms
abbrev pub rule_within : ℕ → (List Bool → Bool) → (List Bool → Bool) → Option Rule
rule_within options set scope = least_rule options (λ c. set c && scope c) (λ c. set c || not (scope c))

-- a rule of at most 32 terms over so many options, which is true just where the set holds, among the configurations of the scope
pub record IsRuleWithin (options : ℕ) (set scope : List Bool → Bool) (rule : Rule) : Type 0 where
  pub few : length (terms_in rule) ≤ 32
  pub named : AreOf options (terms_in rule)
  pub is_true : (c : List Bool) → scope c ≡ true → truth (formula_of rule) c ≡ set c

-- a configuration of both, with a value for each option
pub record IsInBoth {I : Type 0} (sets : Sets I) (set scope : I) (c : List Bool) : Type 0 where
  pub values : length c ≡ sets.options
  pub in_set : sets.test set c ≡ true
  pub in_scope : sets.test scope c ≡ true

-- there is none
abbrev pub AreApart : {I : Type 0} → Sets I → I → I → Type 0
AreApart sets set scope = (c : List Bool) → sets.test scope c ≡ true → sets.test set c ≡ false
