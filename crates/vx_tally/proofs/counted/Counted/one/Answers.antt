use Rattle.vx_tally.specs.Counted.{IsCounted, IsCountedOf}
use Rattle.vx_tally.proofs.CountedLaws.{IsCountedOf-one}
use Rattle.vx_tally.proofs.counted.Counted.one.Goals as goal

pub returns-clause-ok : goal.returns-clause-ok
returns-clause-ok g c = rw c.of.ensures (IsCountedOf-one _ c.args.scope c.in_ok-tally.tally c.args.number c.requires (c.in_ok-tally.ensures.valid _) c.in_ok-tally.ensures.number c.ranges.number.fits)
