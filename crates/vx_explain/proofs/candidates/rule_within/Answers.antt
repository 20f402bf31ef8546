use Rattle.std.proofs.Common.{◌∙◌}
use Rattle.std.proofs.lemmas.Result.{IfOk-weaker}
use Rattle.vx_explain.proofs.Explaining.{bounds_within, rule_same}
use Rattle.vx_explain.proofs.candidates.rule_within.Goals as goal

pub least_rule-requires-clause-within : goal.least_rule-requires-clause-within
least_rule-requires-clause-within g c = bounds_within (g.S.Space.sets c.args.space.now) c.args.set c.args.scope c.in_ok-bounds.bounds.0 c.in_ok-bounds.bounds.1 c.in_ok-bounds.ensures.least c.in_ok-bounds.ensures.most

pub returns-clause-rule : goal.returns-clause-rule
returns-clause-rule g c = IfOk-weaker c.least_rule.result _ _ (λ r h. h ∙ rule_same c.in_ok-bounds.ensures.extends c.args.set c.args.scope c.in_ok-bounds.bounds.0 c.in_ok-bounds.bounds.1 c.in_ok-bounds.ensures.least c.in_ok-bounds.ensures.most) c.least_rule.ensures.rule
