use Rattle.std.proofs.Common.{arith, filter}
use Rattle.vx_count.specs.Settings.{settings}
use Rattle.vx_compare.proofs.Turns.{last_alone}
use Rattle.vx_compare.proofs.ways.first_of.Goals as goal

pub returns : goal.returns
returns g c =
    let s = g.S.Space.sets c.args.space.now in
    last_alone (filter (s.test c.args.set) (settings s.options)) c.in_ok-found.found.items _ _ c.in_ok-found.found.len c.in_ok-found.ensures c.pop.ensures.items (omega (arith, c.in_ok-found.found.ok)) c.pop.ensures.rest
