use Rattle.std.proofs.lemmas.Result.{err_from_is_err_and}
use Rattle.vx_pool.specs.Reading.{steps}
use Rattle.vx_pool.specs.Steps.{steps-goes_on, steps-ends, steps-done}
use Rattle.vx_lines.specs.Tables.{field_step}
use Rattle.vx_lines.proofs.reading.pass_fields.Goals as goal

pub returns-in_err-pass_field : goal.returns-in_err-pass_field
returns-in_err-pass_field c =
    let p = err_from_is_err_and c.from_residual.result c.from_residual.ensures.1 in
    rw (p.1, p.2)
    (steps-ends c.in_err-pass_field.field-0.0 field_step tt c.args.count c.loop.counter c.loop.cursor (steps field_step tt c.args.count c.args.cursor.now)
    c.loop-test.true c.in_err-pass_field.ensures c.loop.invariant)

pub loop-preserved : goal.loop-preserved
loop-preserved c =
    steps-goes_on field_step tt tt c.args.count c.loop.counter c.loop.cursor c.pass_field.new.cursor (steps field_step tt c.args.count c.args.cursor.now)
    c.loop-test.true c.in_ok-pass_field.ensures c.loop.invariant

pub returns : goal.returns
returns c =
    steps-done field_step tt c.args.count c.loop.counter c.loop.cursor (steps field_step tt c.args.count c.args.cursor.now) c.loop-test.false c.loop.invariant
