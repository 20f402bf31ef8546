use Rattle.std.proofs.Common.{arith}
use Rattle.vx_join.proofs.Rounds.{rounds_at_most}
use Rattle.vx_join.proofs.joining.rounds_of.Goals as goal

pub returns-in_err-rounds : goal.returns-in_err-rounds
returns-in_err-rounds c =
    let more = rounds_at_most c.args.first.now c.report-item.result c.args.others.now c.loop-report.report-index c.loop-report-test.true c.report-item.is in
    let over = c.in_err-rounds.ensures in
    let here = c.loop-report.invariant in
    rw c.from_residual.ensures (omega (arith, over, more, here))
