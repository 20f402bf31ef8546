use Rattle.std.proofs.lemmas.Result.{err_from_is_err_and}
use Rattle.vx_value.specs.Words.{spelled_byte}
use Rattle.vx_plans.proofs.Puts.{stops_at}
use Rattle.vx_plans.proofs.line.put_word.Goals as goal

pub returns-in_err-put_byte : goal.returns-in_err-put_byte
returns-in_err-put_byte g c =
    let p = err_from_is_err_and c.from_residual.result c.from_residual.ensures.1 in
    rw (p.1, p.2) (stops_at (spelled_byte 33) _ _ _ _ _ _ _ c.loop-b-test.true c.loop-b.invariant.gained c.loop-b.invariant.faults c.loop-b.invariant.shortages c.in_err-put_byte.ensures)
