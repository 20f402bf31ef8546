use Rattle.std.proofs.Common.{arith}
use Rattle.vx_compare.proofs.Sided.{ids_all, ids_more}
use Rattle.vx_compare.proofs.comparing.first_sides.Goals as goal

pub loop-set-preserved : goal.loop-set-preserved
loop-set-preserved g c = ids_more c.args.firsts.now c.loop-set.set-index c.set-item.result c.loop-set.sides.items _ _ c.loop-set-test.true c.set-item.is c.loop-set.invariant (omega arith) c.in_ok-push.ensures.items

pub returns : goal.returns
returns g c = ids_all c.args.firsts.now c.loop-set.set-index c.loop-set.sides.items c.loop-set-test.false c.loop-set.invariant
