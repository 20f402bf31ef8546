use Rattle.std.proofs.Common.{◌-◌, ◌<◌, length, vec_len, arith}
use Rattle.std.proofs.lemmas.List.Elements.{All-push}
use Rattle.std.proofs.lemmas.Result.{err_from_is_err_and}
use Rattle.vx_pool.specs.Instructions.{checked_at, starts_of}
use Rattle.vx_pool.proofs.Walks.{walk-goes_on, walk-ends, walk-done}
use Rattle.vx_pool.proofs.instructions.places_of.Goals as goal

pub returns-in_err-instruction-clause-value : goal.returns-in_err-instruction-clause-value
returns-in_err-instruction-clause-value c =
    let p = err_from_is_err_and c.from_residual.result c.from_residual.ensures.1 in
    let code = c.args.code.now in
    let look = checked_at c.args.pool.now c.args.major c.args.max_locals code c.args.base in
    rw (p.1, p.2)
    (walk-ends c.in_err-instruction.field-0.0 look (length code) c.loop-at.starts.items (length code - vec_len c.loop-at.starts) c.loop-at.at
    (starts_of c.args.pool.now c.args.major c.args.max_locals code c.args.base) (omega (arith, c.loop-at.invariant.few)) c.loop-at-test.true c.in_err-instruction.ensures.value c.loop-at.invariant.so_far)

pub loop-at-preserved : goal.loop-at-preserved
loop-at-preserved c =
    let code = c.args.code.now in
    let look = checked_at c.args.pool.now c.args.major c.args.max_locals code c.args.base in
    record {
      so_far =
          rw c.in_ok-push.ensures.items
          (walk-goes_on look (length code) c.loop-at.starts.items (length code - vec_len c.loop-at.starts) (length code - vec_len c.push.new.self) c.loop-at.at c.in_ok-instruction.instruction
          (starts_of c.args.pool.now c.args.major c.args.max_locals code c.args.base)
          (omega (arith, c.loop-at.invariant.few, c.in_ok-push.ensures.len)) c.loop-at-test.true c.in_ok-instruction.ensures.value c.loop-at.invariant.so_far);
      below = rw c.in_ok-push.ensures.items (All-push (λ s. s < length code) c.loop-at.starts.items c.loop-at.at c.loop-at.invariant.below c.loop-at-test.true);
      few = omega (arith, c.loop-at.invariant.few, c.in_ok-push.ensures.len, c.in_ok-instruction.ensures.bounds);
      within = omega (arith, c.in_ok-instruction.ensures.bounds);
    }

pub returns-clause-value : goal.returns-clause-value
returns-clause-value c =
    let code = c.args.code.now in
    let look = checked_at c.args.pool.now c.args.major c.args.max_locals code c.args.base in
    rw c.of.ensures
    (walk-done look (length code) c.loop-at.starts.items (length code - vec_len c.loop-at.starts) c.loop-at.at
    (starts_of c.args.pool.now c.args.major c.args.max_locals code c.args.base) c.loop-at-test.false c.loop-at.invariant.so_far)
