use Rattle.std.proofs.lemmas.Result.{err_from_is_err_and}
use Rattle.vx_pool.specs.Reading.{items, item_step}
use Rattle.vx_pool.specs.Steps.{steps-done, items-goes_on, items-ends}
use Rattle.vx_lines.specs.Tables.{method_at}
use Rattle.vx_lines.proofs.reading.methods.Goals as goal

pub returns-in_err-next : goal.returns-in_err-next
returns-in_err-next c =
    let p = err_from_is_err_and c.from_residual.result c.from_residual.ensures.1 in
    let item = method_at c.args.pool.now in
    rw (p.1, p.2)
    (items-ends c.in_err-next.field-0.0 item c.loop.methods.items c.args.count c.loop.counter c.loop.cursor (items item c.args.count c.args.cursor.now)
    c.loop-test.true c.in_err-next.ensures c.loop.invariant)

pub loop-preserved : goal.loop-preserved
loop-preserved c =
    let item = method_at c.args.pool.now in
    rw c.in_ok-push.ensures.items
    (items-goes_on item c.loop.methods.items c.in_ok-next.next c.args.count c.loop.counter c.loop.cursor c.method.new.cursor (items item c.args.count c.args.cursor.now)
    c.loop-test.true c.in_ok-next.ensures c.loop.invariant)

pub returns : goal.returns
returns c =
    let item = method_at c.args.pool.now in
    rw c.of.ensures
    (steps-done (item_step item) c.loop.methods.items c.args.count c.loop.counter c.loop.cursor (items item c.args.count c.args.cursor.now) c.loop-test.false c.loop.invariant)
