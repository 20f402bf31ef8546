-- The rule that is told is true just where the set holds, among the configurations of a scope.
use Rattle.std.specs.Prelude.{◌≡◌, ℕ, Bool, List, IfSome}
use Rattle.vx_space.specs.Config.{AgreeBelow}
use Rattle.vx_explain.specs.Scopes.{IsRuleWithin, rule_within}

-- a set depends on so many options alone
abbrev pub DependsOn : ℕ → (List Bool → Bool) → Type 0
DependsOn options set = (c d : List Bool) → AgreeBelow options c d → set c ≡ set d

abbrev pub RulesAreRight : Type 0
RulesAreRight = (options : ℕ) (set scope : List Bool → Bool) → DependsOn options set → DependsOn options scope → IfSome (rule_within options set scope) (IsRuleWithin options set scope)
