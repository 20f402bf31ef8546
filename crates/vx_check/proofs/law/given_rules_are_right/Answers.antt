use Rattle.vx_check.proofs.Rules.{rules_right}
use Rattle.vx_check.proofs.law.given_rules_are_right.Goals as goal

pub returns : goal.returns
returns c = rules_right
