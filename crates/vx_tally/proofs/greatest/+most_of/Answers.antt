use Rattle.vx_tally.proofs.ChosenLaws.{not_both}
use Rattle.vx_tally.proofs.MostLaws.{IsMost-end, IsMost-divided, AreMost-noted}
use Rattle.vx_tally.proofs.greatest.+most_of.Goals as goal

pub returns-then-place-eq0-clause-most : goal.returns-then-place-eq0-clause-most
returns-then-place-eq0-clause-most g t c = IsMost-end (g.met.S.Space.lawful c.args.space.now) c.args.nodes.now c.args.set c.args.place c.requires.known (λ e. not_both c.is_never.result (c.is_never.ensures.1 e) c.if-is_never.false) c.if-place-eq0.true

pub returns-clause-most : goal.returns-clause-most
returns-clause-most g t c = IsMost-divided (g.met.S.Space.lawful c.args.space.now) c.args.nodes.now c.args.set c.args.place c.divided-parts.result c.in_ok-low.low c.in_ok-high.high c.greater-most.result c.requires.known c.requires.nodes c.divided-parts.ensures c.in_ok-low.ensures.most c.in_ok-high.ensures.most c.greater-most.ensures

pub returns-clause-answers : goal.returns-clause-answers
returns-clause-answers g t c = AreMost-noted (g.S.Space.sets c.args.space.now) c.args.nodes.now c.most_of-2.new.known c.put.new.self (record { a = c.args.set; b = c.args.set; first = record { place = c.args.place; more = 0 }; second = record { place = c.args.place; more = 0 } }) c.greater-most.result c.in_ok-high.ensures.answers (returns-clause-most g t c) c.in_ok-put.ensures
