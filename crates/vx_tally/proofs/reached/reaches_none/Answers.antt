use Rattle.std.proofs.Common.{refl, arith}
use Rattle.vx_tally.proofs.ReachedLaws.{none-end, none-bound}
use Rattle.vx_tally.proofs.reached.reaches_none.Goals as goal

pub returns-then-place-eq0-clause-none : goal.returns-then-place-eq0-clause-none
returns-then-place-eq0-clause-none g c = λ _. none-end (g.S.Space.sets c.args.space.now) c.args.nodes.now c.args.set c.args.place c.args.more c.if-place-eq0.true c.requires.more

pub returns-then-bound-more-clause-none : goal.returns-then-bound-more-clause-none
returns-then-bound-more-clause-none g c = λ _. none-bound (g.S.Space.sets c.args.space.now) c.args.nodes.now c.args.set _ c.args.bounds.now c.args.place c.args.more _ c.requires.bounds (omega (arith, c.requires.given, c.requires.bounds.number)) c.if-bound-more.true c.ranges.more.fits refl
