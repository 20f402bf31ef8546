use Rattle.vx_explain.proofs.Cycle.{few_of}
use Rattle.vx_explain.proofs.terms.few_terms.Goals as goal

pub returns-in-Some-clause-terms : goal.returns-in-Some-clause-terms
returns-in-Some-clause-terms g c = few_of (g.S.Space.sets c.args.space.now) c.args.least c.args.most c.in-Some.field-0 c.new-terms.result.items c.terms_between.new.terms.items c.of.result c.new-terms.ensures.items c.of.ensures c.in_ok-terms_between.ensures.few (rw c.in-Some.is at c.in_ok-terms_between.ensures.terms)
