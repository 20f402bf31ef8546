use Rattle.std.proofs.Common.{◌<◌, arith}
use Rattle.vx_explain.proofs.LeftOut.{LeadsOut-step}
use Rattle.vx_explain.proofs.literals.leaves_out.Goals as goal

pub loop-turn-preserved : goal.loop-turn-preserved
loop-turn-preserved g c =
    let less : c.in-Some.top.0 < c.args.literal.option = omega (arith, c.if-literal-top.false) in
    LeadsOut-step c.args.set c.loop-turn.at c.part_with_less-at.result c.in-Some.top.1 c.in-Some.top.2 c.in-Some.top.0 c.args.literal c.loop-turn.invariant c.in-Some.ensures.some less c.part_with_less-at.ensures
