use Rattle.std.proofs.Common.{arith, ◌<◌}
use Rattle.vx_tally.proofs.PartLaws.{part-low, part-high}
use Rattle.vx_tally.proofs.parts.parts.Goals as goal

pub returns-clause-low : goal.returns-clause-low
returns-clause-low c = part-low c.requires.nodes c.args.place c.args.option _ (omega (arith, c.if-place-eq0.false)) c.requires.given c.if-node-option.false

pub returns-clause-high : goal.returns-clause-high
returns-clause-high c = part-high c.requires.nodes c.args.place c.args.option _ (omega (arith, c.if-place-eq0.false)) c.requires.given c.if-node-option.false
