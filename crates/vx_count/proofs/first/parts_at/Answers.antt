use Rattle.std.proofs.Common.{◌≡◌, arith}
use Rattle.vx_count.proofs.Fronts.{parts_of_top}
use Rattle.vx_count.proofs.first.parts_at.Goals as goal

pub returns-in-Some : goal.returns-in-Some
returns-in-Some g c =
    let here : c.in-Some.top.0 ≡ c.args.option = omega arith in
    parts_of_top (g.met.S.Space.lawful c.args.space.now) c.args.id c.in-Some.top.1 c.in-Some.top.2 c.in-Some.top.0 c.args.option c.requires c.in-Some.ensures.some here
