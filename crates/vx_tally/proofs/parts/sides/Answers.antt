use Rattle.vx_tally.proofs.PartLaws.{side-raised}
use Rattle.vx_tally.proofs.parts.sides.Goals as goal

pub returns-clause-low : goal.returns-clause-low
returns-clause-low c = rw c.raised.ensures (side-raised c.args.options c.args.nodes.now c.args.edge c.args.option _ _ c.parts.ensures.low)

pub returns-clause-high : goal.returns-clause-high
returns-clause-high c = rw c.raised-2.ensures (side-raised c.args.options c.args.nodes.now c.args.edge c.args.option _ _ c.parts.ensures.high)
