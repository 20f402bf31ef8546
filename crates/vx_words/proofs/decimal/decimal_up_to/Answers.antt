use Rattle.std.proofs.Common.{arith, ◌<◌, length}
use Rattle.vx_words.proofs.Decimals.{next_digit}
use Rattle.vx_words.proofs.decimal.decimal_up_to.Goals as goal

pub loop-digit-preserved : goal.loop-digit-preserved
loop-digit-preserved c =
    let lt : c.loop-digit.digit-index < length c.args.word.now = omega arith in
    (omega (arith, c.capped-number.ensures), next_digit _ _ _ _ _ _ lt c.capped-number.ensures c.loop-digit.invariant.1)
