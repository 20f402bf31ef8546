use Rattle.vx_tally.proofs.ChosenLaws.{either_low, IsChosenStep-divided}
use Rattle.vx_tally.proofs.choosing.+part.Goals as goal

pub either-requires-clause-low : goal.either-requires-clause-low
either-requires-clause-low g t c =
    let off = c.in_ok-off.ensures in
    either_low (g.S.Space.sets c.args.space.now) c.args.first.now c.args.second.now c.part.new.work.made c.part-2.new.work.made c.halved.result.0 c.least_asked-option.result c.in_ok-off.off off.work.options off.work.nodes c.in_ok-on.ensures.grown c.halved.ensures.low.from off.chosen

pub returns : goal.returns
returns g t c =
    let taken = rw c.in-Divided.is at c.in_ok-answer.ensures in
    rw c.raised-2.ensures (IsChosenStep-divided (g.met.S.Space.lawful c.args.space.now) c.args.first.now c.args.second.now c.args.work.now.made c.at_once.new.work.made c.part.new.work.made c.part-2.new.work.made c.either.new.made c.args.asked c.lowered-lesser.result c.halved.result.0 c.halved.result.1 c.least_asked-option.result c.min-less.result c.in_ok-off.off c.in_ok-on.on c.in_ok-answer-2.answer _ _ _ _ _ _ _ c.requires.choice c.lowered-lesser.ensures c.min-less.ensures taken.1 c.least_asked-option.ensures.greatest c.halved.ensures.low c.halved.ensures.high c.in_ok-off.ensures c.in_ok-on.ensures c.in_ok-answer-2.ensures c.in_ok-put.ensures)
