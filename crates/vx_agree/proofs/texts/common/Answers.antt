use Rattle.std.proofs.Common.{arith}
use Rattle.vx_agree.proofs.Equal.{common_ends, least_ends}
use Rattle.vx_agree.proofs.texts.common.Goals as goal

pub returns : goal.returns
returns c =
    let e = c.min-most.ensures in
    let at = c.loop-place.auto.place-end in
    let past = c.loop-place-test.false in
    common_ends c.args.one.now c.args.other.now c.min-most.result c.loop-place.place (least_ends c.args.one.now c.args.other.now c.min-most.result e) (omega (arith, at, past)) c.loop-place.invariant
