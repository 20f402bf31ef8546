use Rattle.std.proofs.Common.{◌≡◌, ◌∙◌, ap, sum_by, arith}
use Rattle.std.proofs.lemmas.Result.{err_from_is_err_and}
use Rattle.vx_pool.specs.declared.pool.Pool.{Pool}
use Rattle.vx_pool.specs.Pool.{size}
use Rattle.vx_pool.specs.Checks.{first_failing}
use Rattle.vx_pool.specs.Entries.{checks_of, entries_checked}
use Rattle.vx_pool.specs.Loops.{item_first, each-goes_on, each-ends, each-all, sum_on}
use Rattle.vx_pool.proofs.entries.check_each.Goals as goal

pub returns-in_err-entry : goal.returns-in_err-entry
returns-in_err-entry c =
    let p = err_from_is_err_and c.from_residual.result c.from_residual.ensures.1 in
    let pool = c.args.pool.now in
    rw (p.1, p.2) (each-ends c.in_err-entry.field-0.0 (λ e at. first_failing at (checks_of pool e)) size c.as_slice-item-items.result.now c.loop-item.item-index c.loop-item.at c.item-item.result (entries_checked pool pool.entries c.args.start)
    (item_first c.as_slice-item-items.result.now c.loop-item.item-index c.item-item.result c.loop-item-test.true c.item-item.is) c.in_err-entry.ensures c.loop-item.invariant.so_far)

pub overflow_add-at : goal.overflow_add-at
overflow_add-at c =
    let items = c.as_slice-item-items.result.now in
    let on = sum_on size items c.loop-item.item-index c.loop-item.at c.args.start c.item-item.result c.loop-item-test.true c.item-item.is c.loop-item.invariant.moved in
    let all : sum_by size items ≡ sum_by size c.args.pool.now.entries = ap (sum_by size) c.as_slice-item-items.ensures ∙ ap (λ (p : Pool). sum_by size p.entries) c.pool.ensures in
    record { fits = omega (arith, on, all, c.size-at.ensures, c.requires) }

pub loop-item-preserved : goal.loop-item-preserved
loop-item-preserved c =
    let pool = c.args.pool.now in
    let items = c.as_slice-item-items.result.now in
    rw c.size-at.ensures (record {
      so_far = each-goes_on (λ e at. first_failing at (checks_of pool e)) size items c.loop-item.item-index c.loop-item.at c.item-item.result (entries_checked pool pool.entries c.args.start) (item_first c.as_slice-item-items.result.now c.loop-item.item-index c.item-item.result c.loop-item-test.true c.item-item.is) c.in_ok-entry.ensures c.loop-item.invariant.so_far;
      moved = sum_on size items c.loop-item.item-index c.loop-item.at c.args.start c.item-item.result c.loop-item-test.true c.item-item.is c.loop-item.invariant.moved;
    })

pub returns : goal.returns
returns c =
    let pool = c.args.pool.now in
    each-all (λ e at. first_failing at (checks_of pool e)) size c.as_slice-item-items.result.now c.loop-item.item-index c.loop-item.at (entries_checked pool pool.entries c.args.start) c.loop-item-test.false c.loop-item.invariant.so_far
