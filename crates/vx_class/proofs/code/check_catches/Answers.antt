use Rattle.std.proofs.Common.{List, ℕ, get_or, arith}
use Rattle.std.proofs.lemmas.Result.{err_from_is_err_and}
use Rattle.vx_class.specs.declared.class_file.Catch.{Catch}
use Rattle.vx_class.specs.Code.{row_checked, catches_checked}
use Rattle.vx_pool.specs.Loops.{value_first, each-goes_on, each-ends, each-all}
use Rattle.vx_class.proofs.code.check_catches.Goals as goal

abbrev row_of : List Catch → ℕ → Catch
row_of rows i = get_or rows i (record { start = 0; end = 0; handler = 0; class = 0 })

pub returns-in_err-catch_holds : goal.returns-in_err-catch_holds
returns-in_err-catch_holds c =
    let p = err_from_is_err_and c.from_residual.result c.from_residual.ensures.1 in
    let test = row_checked c.args.pool.now c.args.starts.now c.args.code.now in
    let rows = c.args.rows.now in
    let i = c.loop-row.row-index in
    rw (p.1, p.2)
    (each-ends c.in_err-catch_holds.field-0.0 test (λ _. 8) rows i c.loop-row.at (row_of rows i) (catches_checked c.args.pool.now c.args.starts.now c.args.code.now rows c.args.start)
    (value_first rows i (record { start = 0; end = 0; handler = 0; class = 0 }) c.loop-row-test.true) c.in_err-catch_holds.ensures c.loop-row.invariant.so_far)

pub loop-row-preserved : goal.loop-row-preserved
loop-row-preserved c =
    let test = row_checked c.args.pool.now c.args.starts.now c.args.code.now in
    let rows = c.args.rows.now in
    let i = c.loop-row.row-index in
    record {
      so_far =
          each-goes_on test (λ _. 8) rows i c.loop-row.at (row_of rows i) (catches_checked c.args.pool.now c.args.starts.now c.args.code.now rows c.args.start)
          (value_first rows i (record { start = 0; end = 0; handler = 0; class = 0 }) c.loop-row-test.true) c.in_ok-catch_holds.ensures c.loop-row.invariant.so_far;
      moved = omega (arith, c.loop-row.invariant.moved);
    }

pub returns : goal.returns
returns c =
    let test = row_checked c.args.pool.now c.args.starts.now c.args.code.now in
    each-all test (λ _. 8) c.args.rows.now c.loop-row.row-index c.loop-row.at (catches_checked c.args.pool.now c.args.starts.now c.args.code.now c.args.rows.now c.args.start) c.loop-row-test.false c.loop-row.invariant.so_far
