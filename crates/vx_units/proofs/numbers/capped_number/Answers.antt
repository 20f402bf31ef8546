use Rattle.std.proofs.Common.{◌<◌, ◌∙◌, arith, length, sym}
use Rattle.vx_units.proofs.Walks.{next_digit}
use Rattle.vx_units.proofs.numbers.capped_number.Goals as goal

pub loop-unit-preserved : goal.loop-unit-preserved
loop-unit-preserved c =
    let lt : c.loop-unit.unit-index < length c.args.units.now = omega arith in
    let test = sym c.is_digit.ensures ∙ c.if-not-is_digit.false in
    record {
      capped = omega (arith, c.capped-number.ensures);
      so_far = next_digit _ _ _ _ _ _ lt test c.capped-number.ensures c.loop-unit.invariant.so_far;
    }
