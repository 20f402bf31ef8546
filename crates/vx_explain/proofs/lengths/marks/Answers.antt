use Rattle.std.proofs.Common.{◌≤◌, arith}
use Rattle.std.specs.Prelude.{not}
use Rattle.vx_explain.proofs.Truths.{passed_most}
use Rattle.vx_explain.proofs.lengths.marks.Goals as goal

pub overflow_add-count : goal.overflow_add-count
overflow_add-count c =
    let few : c.loop-sign.count ≤ c.loop-sign.sign-index = rw c.loop-sign.invariant (passed_most not c.args.signs.now c.loop-sign.sign-index) in
    omega (arith, few, c.loop-sign-test.true)
