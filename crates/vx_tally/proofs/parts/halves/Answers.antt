use Rattle.vx_tally.proofs.SetLaws.{half-low, half-high}
use Rattle.vx_tally.proofs.parts.halves.Goals as goal

pub returns-clause-low : goal.returns-clause-low
returns-clause-low g c = half-low (g.met.S.Space.lawful c.args.space.now) c.args.id c.in-Some.top.1 c.in-Some.top.2 c.in-Some.top.0 c.args.option c.requires.known c.in-Some.ensures.some c.if-top-option.false

pub returns-clause-high : goal.returns-clause-high
returns-clause-high g c = half-high (g.met.S.Space.lawful c.args.space.now) c.args.id c.in-Some.top.1 c.in-Some.top.2 c.in-Some.top.0 c.args.option c.requires.known c.in-Some.ensures.some c.if-top-option.false
