use Rattle.std.proofs.Common.{◌<◌, ◌-◌, arith}
use Rattle.vx_work.proofs.pairs.+left_of_few.Goals as goal

pub left_of_few-requires : goal.left_of_few-requires
left_of_few-requires g t c κs within =
    let known = rw c.in-Some.is at c.parts_of_both.ensures.low in
    let falls : c.args.left - 1 < t = omega (arith, c.if-left-eq0.false, c.decreases) in
    (falls, (within.0, (within.1, (known.0, known.1))))
