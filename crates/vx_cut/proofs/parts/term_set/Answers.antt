use Rattle.std.proofs.Common.{arith, subst, sym, ◌<◌}
use Rattle.vx_cut.proofs.Sets.{IsPart-all, IsPart-start, IsPart-step, literal_at}
use Rattle.vx_cut.proofs.parts.term_set.Goals as goal

pub loop-literal-init : goal.loop-literal-init
loop-literal-init g c = IsPart-start (g.S.Space.sets c.args.space.now) c.args.set c.requires.known

pub literal_set-requires-clause-known : goal.literal_set-requires-clause-known
literal_set-requires-clause-known g c = c.loop-literal.invariant.is.known

pub literal_set-requires-clause-option : goal.literal_set-requires-clause-option
literal_set-requires-clause-option g c = rw c.loop-literal.invariant.extends.options (literal_at _ c.args.term.now c.loop-literal.literal-index _ c.loop-literal-test.true c.requires.options)

pub loop-literal-preserved : goal.loop-literal-preserved
loop-literal-preserved g c = IsPart-step _ _ _ c.args.set c.loop-literal.part c.in_ok-part.part c.args.term.now c.loop-literal.literal-index _ c.loop-literal-test.true c.loop-literal.invariant c.in_ok-part.ensures.extends c.in_ok-part.ensures.set

pub returns-clause-set : goal.returns-clause-set
returns-clause-set g c = (IsPart-all _ _ c.args.set c.loop-literal.part c.args.term.now c.loop-literal.literal-index c.loop-literal-test.false c.loop-literal.invariant).is

pub returns-clause-extends : goal.returns-clause-extends
returns-clause-extends g c = c.loop-literal.invariant.extends
