use Rattle.vx_explain.proofs.FirstLiterals.{none_behind, rest_within, some_behind}
use Rattle.vx_explain.proofs.literals.terms_behind.Goals as goal

pub few_terms-requires-clause-within : goal.few_terms-requires-clause-within
few_terms-requires-clause-within g c = rest_within c.in_ok-rest.ensures.extends c.args.literals.now c.args.least c.args.most c.in_ok-rest.rest c.requires.most c.requires.within c.in_ok-rest.ensures.left

pub returns-in_default-clause-terms : goal.returns-in_default-clause-terms
returns-in_default-clause-terms g c = none_behind c.in_ok-rest.ensures.extends c.args.literals.now c.args.least c.args.most c.in_ok-rest.rest c.requires.most c.in_ok-rest.ensures.left (rw c.in_default.is at c.in_ok-terms.ensures.terms)

pub returns-clause-terms : goal.returns-clause-terms
returns-clause-terms g c = some_behind c.in_ok-rest.ensures.extends c.args.literals.now c.args.least c.args.most c.in_ok-rest.rest c.in-Some.terms c.in_ok-all.all.items _ c.requires.most c.in_ok-rest.ensures.left (rw c.in-Some.is at c.in_ok-terms.ensures.terms) (rw c.as_slice.ensures at c.in_ok-all.ensures) c.few_of.ensures
