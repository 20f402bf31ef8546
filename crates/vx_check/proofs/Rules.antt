-- A rule between what a set has of a scope and that with all outside of it is true just where the set holds, in the scope.
use Rattle.std.proofs.Common.{◌≡◌, ℕ, Bool, List, arith}
use Rattle.vx_explain.proofs.Choosing.{rule_is}
use Rattle.vx_explain.proofs.Sums.{AsksFrom}
use Rattle.vx_check.specs.Rules.{DependsOn, RulesAreRight}

asks : (options : ℕ) (set : List Bool → Bool) → DependsOn options set → AsksFrom 0 options set
asks options set a c d h = a c d (λ i l. h i (omega arith) (omega (arith, l)))

pub rules_right : RulesAreRight
rules_right options set scope a b = rule_is options set scope (asks options set a) (asks options scope b)
