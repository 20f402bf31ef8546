use Rattle.std.proofs.Common.{refl, subst, sym}
use Rattle.vx_space.proofs.Spaces.{Extends-trans}
use Rattle.vx_explain.specs.Rules.{AreNamed}
use Rattle.vx_explain.proofs.FirstLiterals.{IsLeaving-all, IsLeaving-start, IsLeaving-step, drop_past, literal_named}
use Rattle.vx_explain.proofs.literals.left_by.Goals as goal

pub loop-literal-init : goal.loop-literal-init
loop-literal-init g c = IsLeaving-start (g.S.Space.sets c.args.space.now) c.args.set c.args.literals.now c.requires.set

pub set_of_literal-requires : goal.set_of_literal-requires
set_of_literal-requires g c = literal_named _ _ c.args.literals.now c.loop-literal.literal-index _ c.loop-literal-test.true refl (subst (λ n. AreNamed n c.args.literals.now) (sym c.loop-literal.invariant.extends.options) c.requires.named)

pub returns-in_err-taken-clause-extends : goal.returns-in_err-taken-clause-extends
returns-in_err-taken-clause-extends g c = Extends-trans c.loop-literal.invariant.extends c.set_of_literal.ensures.extends

pub minus-requires-clause-first : goal.minus-requires-clause-first
minus-requires-clause-first g c = c.in_ok-taken.ensures.extends.known c.loop-literal.rest c.loop-literal.invariant.known

pub minus-requires-clause-second : goal.minus-requires-clause-second
minus-requires-clause-second g c = c.in_ok-taken.ensures.set.known

pub returns-in_err-rest-clause-extends : goal.returns-in_err-rest-clause-extends
returns-in_err-rest-clause-extends g c = Extends-trans c.loop-literal.invariant.extends (Extends-trans c.in_ok-taken.ensures.extends c.minus.ensures.extends)

pub loop-literal-preserved : goal.loop-literal-preserved
loop-literal-preserved g c = IsLeaving-step _ c.in_ok-taken.ensures.extends c.in_ok-rest.ensures.extends c.args.set c.args.literals.now c.loop-literal.literal-index _ c.in_ok-taken.taken c.loop-literal.rest c.in_ok-rest.rest c.loop-literal-test.true refl c.loop-literal.invariant c.in_ok-taken.ensures.set c.in_ok-rest.ensures.ok

pub returns-clause-extends : goal.returns-clause-extends
returns-clause-extends g c = c.loop-literal.invariant.extends

pub returns-clause-left : goal.returns-clause-left
returns-clause-left g c = IsLeaving-all c.args.set c.args.literals.now _ c.loop-literal.rest (drop_past c.args.literals.now c.loop-literal.literal-index c.loop-literal-test.false) c.loop-literal.invariant
