use Rattle.vx_model.proofs.Complete.{rule_read}
use Rattle.vx_model.proofs.Sound.{rule_sound}
use Rattle.vx_model.proofs.law.rules_are_the_grammar.Goals as goal

pub returns : goal.returns
returns c = λ tokens rule. (rule_read tokens rule, rule_sound tokens rule)
