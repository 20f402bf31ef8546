use Rattle.std.proofs.lemmas.Result.{IfOk-weaker}
use Rattle.vx_space.proofs.Spaces.{Extends-trans}
use Rattle.vx_explain.proofs.Choosing.{complement_within, least_of, within_later}
use Rattle.vx_explain.proofs.candidates.least_rule.Goals as goal

pub least_with-requires-clause-within : goal.least_with-requires-clause-within
least_with-requires-clause-within g c = within_later (Extends-trans c.in_ok-below.ensures.extends c.in_ok-above.ensures.extends) c.args.least c.args.most c.requires.least c.requires.most c.requires.within

pub least_with-requires-2-clause-within : goal.least_with-requires-2-clause-within
least_with-requires-2-clause-within g c = within_later c.in_ok-best.ensures.extends c.in_ok-below.below c.in_ok-above.above (c.in_ok-above.ensures.extends.known c.in_ok-below.below c.in_ok-below.ensures.ok.known) c.in_ok-above.ensures.ok.known (complement_within c.in_ok-below.ensures.extends c.in_ok-above.ensures.extends c.args.least c.args.most c.in_ok-below.below c.in_ok-above.above c.requires.least c.requires.within c.in_ok-below.ensures.ok c.in_ok-above.ensures.ok)

pub returns-clause-rule : goal.returns-clause-rule
returns-clause-rule g c = IfOk-weaker c.least_with-2.result _ _ (λ r h. least_of c.in_ok-below.ensures.extends c.in_ok-above.ensures.extends c.in_ok-best.ensures.extends c.args.least c.args.most c.in_ok-below.below c.in_ok-above.above c.in_ok-best.best r c.requires.least c.requires.most c.in_ok-below.ensures.ok c.in_ok-above.ensures.ok c.in_ok-best.ensures.rule h) c.least_with-2.ensures.rule
