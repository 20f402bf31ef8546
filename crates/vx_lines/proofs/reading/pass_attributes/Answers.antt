use Rattle.std.proofs.lemmas.Result.{err_from_is_err_and}
use Rattle.vx_pool.specs.Reading.{steps}
use Rattle.vx_pool.specs.Steps.{steps-goes_on, steps-ends, steps-done}
use Rattle.vx_lines.specs.Tables.{pass_step}
use Rattle.vx_lines.proofs.reading.pass_attributes.Goals as goal

pub returns-in_err-pass_attribute : goal.returns-in_err-pass_attribute
returns-in_err-pass_attribute c =
    let p = err_from_is_err_and c.from_residual.result c.from_residual.ensures.1 in
    rw (p.1, p.2)
    (steps-ends c.in_err-pass_attribute.field-0.0 pass_step tt c.args.count c.loop.counter c.loop.cursor (steps pass_step tt c.args.count c.args.cursor.now)
    c.loop-test.true c.in_err-pass_attribute.ensures c.loop.invariant)

pub loop-preserved : goal.loop-preserved
loop-preserved c =
    steps-goes_on pass_step tt tt c.args.count c.loop.counter c.loop.cursor c.pass_attribute.new.cursor (steps pass_step tt c.args.count c.args.cursor.now)
    c.loop-test.true c.in_ok-pass_attribute.ensures c.loop.invariant

pub returns : goal.returns
returns c =
    steps-done pass_step tt c.args.count c.loop.counter c.loop.cursor (steps pass_step tt c.args.count c.args.cursor.now) c.loop-test.false c.loop.invariant
