use Rattle.vx_explain.proofs.Printed.{rule_read_back}
use Rattle.vx_explain.proofs.law.rules_are_read_back.Goals as goal

pub returns : goal.returns
returns c = rule_read_back c.rules_are_the_grammar.ensures
