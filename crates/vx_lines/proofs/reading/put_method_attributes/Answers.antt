use Rattle.std.proofs.lemmas.Result.{err_from_is_err_and}
use Rattle.vx_pool.specs.Reading.{steps}
use Rattle.vx_pool.specs.Steps.{steps-goes_on, steps-ends, steps-done}
use Rattle.vx_lines.specs.Tables.{method_step}
use Rattle.vx_lines.proofs.reading.put_method_attributes.Goals as goal

pub returns-in_err-put_method_attribute : goal.returns-in_err-put_method_attribute
returns-in_err-put_method_attribute c =
    let p = err_from_is_err_and c.from_residual.result c.from_residual.ensures.1 in
    let step = method_step c.args.pool.now in
    rw (p.1, p.2)
    (steps-ends c.in_err-put_method_attribute.field-0.0 step c.loop.rows.items c.args.count c.loop.counter c.loop.cursor (steps step c.args.rows.now.items c.args.count c.args.cursor.now)
    c.loop-test.true c.in_err-put_method_attribute.ensures c.loop.invariant)

pub loop-preserved : goal.loop-preserved
loop-preserved c =
    let step = method_step c.args.pool.now in
    steps-goes_on step c.loop.rows.items c.put_method_attribute.new.rows.items c.args.count c.loop.counter c.loop.cursor c.put_method_attribute.new.cursor
    (steps step c.args.rows.now.items c.args.count c.args.cursor.now) c.loop-test.true c.in_ok-put_method_attribute.ensures c.loop.invariant

pub returns : goal.returns
returns c =
    let step = method_step c.args.pool.now in
    steps-done step c.loop.rows.items c.args.count c.loop.counter c.loop.cursor (steps step c.args.rows.now.items c.args.count c.args.cursor.now)
    c.loop-test.false c.loop.invariant
