use Rattle.std.proofs.Common.{get_or}
use Rattle.std.proofs.lemmas.Result.{err_from_is_err_and}
use Rattle.vx_pool.specs.Instructions.{jumps_at, jumps_checked}
use Rattle.vx_pool.specs.Loops.{value_first, each-goes_on, each-ends, each-all}
use Rattle.vx_pool.proofs.jumps.check_jumps.Goals as goal

pub returns-in_err-jumps_at : goal.returns-in_err-jumps_at
returns-in_err-jumps_at c =
    let p = err_from_is_err_and c.from_residual.result c.from_residual.ensures.1 in
    let starts = c.args.starts.now in
    let places = c.as_slice-start-items.result.now in
    let i = c.loop-start.start-index in
    rw (p.1, p.2)
    (each-ends c.in_err-jumps_at.field-0.0 (λ at _. jumps_at starts c.args.code.now c.args.base at) (λ _. 0) places i 0 (get_or places i 0) (jumps_checked starts c.args.code.now c.args.base)
    (value_first places i 0 c.loop-start-test.true) c.in_err-jumps_at.ensures c.loop-start.invariant)

pub loop-start-preserved : goal.loop-start-preserved
loop-start-preserved c =
    let starts = c.args.starts.now in
    let places = c.as_slice-start-items.result.now in
    let i = c.loop-start.start-index in
    each-goes_on (λ at _. jumps_at starts c.args.code.now c.args.base at) (λ _. 0) places i 0 (get_or places i 0) (jumps_checked starts c.args.code.now c.args.base)
    (value_first places i 0 c.loop-start-test.true) c.in_ok-jumps_at.ensures c.loop-start.invariant

pub returns : goal.returns
returns c =
    let starts = c.args.starts.now in
    let places = c.as_slice-start-items.result.now in
    each-all (λ at _. jumps_at starts c.args.code.now c.args.base at) (λ _. 0) places c.loop-start.start-index 0 (jumps_checked starts c.args.code.now c.args.base) c.loop-start-test.false c.loop-start.invariant
