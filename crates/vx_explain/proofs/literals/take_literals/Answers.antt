use Rattle.std.proofs.Common.{refl, subst, sym}
use Rattle.vx_space.proofs.Spaces.{Extends-trans}
use Rattle.vx_explain.specs.Rules.{AreNamed}
use Rattle.vx_explain.proofs.FirstLiterals.{IsTaking-all, IsTaking-start, IsTaking-step, drop_past, literal_named}
use Rattle.vx_explain.proofs.literals.take_literals.Goals as goal

pub loop-literal-init : goal.loop-literal-init
loop-literal-init g c = IsTaking-start (g.S.Space.sets c.args.space.now) c.args.least c.args.most c.args.taken.now.items c.args.all.now c.requires.least

pub take_literal-requires-clause-literal : goal.take_literal-requires-clause-literal
take_literal-requires-clause-literal g c = literal_named _ _ c.args.all.now c.loop-literal.literal-index _ c.loop-literal-test.true refl (subst (λ n. AreNamed n c.args.all.now) (sym c.loop-literal.invariant.extends.options) c.requires.named)

pub take_literal-requires-clause-rest : goal.take_literal-requires-clause-rest
take_literal-requires-clause-rest g c = c.loop-literal.invariant.known

pub take_literal-requires-clause-most : goal.take_literal-requires-clause-most
take_literal-requires-clause-most g c = c.loop-literal.invariant.extends.known c.args.most c.requires.most

pub returns-in_err-rest-clause-extends : goal.returns-in_err-rest-clause-extends
returns-in_err-rest-clause-extends g c = Extends-trans c.loop-literal.invariant.extends c.take_literal.ensures.extends

pub loop-literal-preserved : goal.loop-literal-preserved
loop-literal-preserved g c = IsTaking-step _ c.in_ok-rest.ensures.extends c.args.least c.args.most c.args.taken.now.items c.args.all.now c.loop-literal.literal-index _ c.loop-literal.taken.items _ c.loop-literal.rest c.in_ok-rest.rest c.requires.most c.loop-literal-test.true refl c.loop-literal.invariant c.in_ok-rest.ensures.one

pub returns-clause-extends : goal.returns-clause-extends
returns-clause-extends g c = c.loop-literal.invariant.extends

pub returns-clause-taken : goal.returns-clause-taken
returns-clause-taken g c = IsTaking-all c.args.least c.args.most c.args.taken.now.items c.args.all.now _ c.loop-literal.taken.items c.loop-literal.rest (drop_past c.args.all.now c.loop-literal.literal-index c.loop-literal-test.false) c.loop-literal.invariant
