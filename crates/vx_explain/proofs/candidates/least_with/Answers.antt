use Rattle.std.proofs.Common.{arith, sym, ◌∙◌}
use Rattle.vx_space.proofs.Spaces.{Extends-trans}
use Rattle.vx_explain.proofs.Choosing.{both_first, empty_is, none_first, within_later}
use Rattle.vx_explain.proofs.FirstLiterals.{firsts_later}
use Rattle.vx_explain.proofs.candidates.least_with.Goals as goal

pub returns-then-is_empty-clause-rule : goal.returns-then-is_empty-clause-rule
returns-then-is_empty-clause-rule g c = none_first c.in_ok-terms.ensures.extends c.args.denies c.args.least c.args.most c.args.best c.in_ok-best.best c.in_ok-terms.terms c.in_ok-literals.literals.items c.requires.least c.requires.most c.in_ok-terms.ensures.terms c.in_ok-best.ensures c.in_ok-literals.ensures.literals (empty_is c.in_ok-literals.literals.items c.in_ok-literals.literals.len (omega (arith, c.in_ok-literals.literals.ok)) (sym c.is_empty.ensures ∙ c.if-is_empty.true))

pub terms_behind-requires-clause-within : goal.terms_behind-requires-clause-within
terms_behind-requires-clause-within g c = within_later (Extends-trans c.in_ok-terms.ensures.extends c.in_ok-literals.ensures.extends) c.args.least c.args.most c.requires.least c.requires.most c.requires.within

pub terms_behind-requires-clause-named : goal.terms_behind-requires-clause-named
terms_behind-requires-clause-named g c = rw c.as_slice.ensures.value (firsts_later c.in_ok-literals.ensures.extends c.args.least c.args.most c.in_ok-literals.literals.items c.in_ok-literals.ensures.literals)

pub returns-clause-rule : goal.returns-clause-rule
returns-clause-rule g c = both_first c.in_ok-terms.ensures.extends c.in_ok-literals.ensures.extends c.args.denies c.args.least c.args.most c.args.best c.in_ok-best.best _ c.in_ok-terms.terms c.in_ok-behind.behind c.in_ok-literals.literals.items c.requires.least c.requires.most c.in_ok-terms.ensures.terms c.in_ok-best.ensures c.in_ok-literals.ensures.literals (rw c.as_slice.ensures.value at c.in_ok-behind.ensures.terms) c.in_ok-lesser_made.ensures
