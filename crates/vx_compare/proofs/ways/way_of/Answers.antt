use Rattle.vx_count.proofs.Halves.{AreNumbers-extends}
use Rattle.vx_compare.proofs.Sided.{way_is}
use Rattle.vx_compare.proofs.ways.way_of.Goals as goal

pub returns-clause-numbers : goal.returns-clause-numbers
returns-clause-numbers g c = AreNumbers-extends c.in_ok-rule.ensures.extends _ c.in_ok-number.ensures.numbers

pub returns-clause-way : goal.returns-clause-way
returns-clause-way g c =
    let s = g.S.Space.sets c.args.space.now in
    way_is c.args.one.now c.args.other.now c.args.ends.0 c.args.ends.1 s.options (s.test c.args.set) (s.test c.args.of)
    (record { one = c.in_ok-here.here; other = c.in_ok-there.there; number = c.in_ok-number.number; rule = c.in_ok-rule.rule; example = c.args.example; difference = c.in_ok-difference.difference })
    c.requires.options c.requires.of.test c.in_ok-here.ensures c.in_ok-there.ensures c.in_ok-number.ensures.number c.in_ok-rule.ensures.rule c.in_ok-difference.ensures
