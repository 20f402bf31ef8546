use Rattle.std.proofs.lemmas.Result.{err_from_is_err_and}
use Rattle.vx_pool.specs.Reading.{steps}
use Rattle.vx_pool.specs.Steps.{steps-goes_on, steps-ends, steps-done}
use Rattle.vx_lines.specs.Sources.{file_step}
use Rattle.vx_lines.proofs.sources.take_attributes.Goals as goal

pub returns-in_err-take_attribute : goal.returns-in_err-take_attribute
returns-in_err-take_attribute c =
    let p = err_from_is_err_and c.from_residual.result c.from_residual.ensures.1 in
    let step = file_step c.args.pool.now in
    rw (p.1, p.2)
    (steps-ends c.in_err-take_attribute.field-0.0 step c.loop.found c.args.count c.loop.counter c.loop.cursor (steps step c.args.found.now c.args.count c.args.cursor.now)
    c.loop-test.true c.in_err-take_attribute.ensures c.loop.invariant)

pub loop-preserved : goal.loop-preserved
loop-preserved c =
    let step = file_step c.args.pool.now in
    steps-goes_on step c.loop.found c.take_attribute.new.found c.args.count c.loop.counter c.loop.cursor c.take_attribute.new.cursor
    (steps step c.args.found.now c.args.count c.args.cursor.now) c.loop-test.true c.in_ok-take_attribute.ensures c.loop.invariant

pub returns : goal.returns
returns c =
    let step = file_step c.args.pool.now in
    steps-done step c.loop.found c.args.count c.loop.counter c.loop.cursor (steps step c.args.found.now c.args.count c.args.cursor.now)
    c.loop-test.false c.loop.invariant
