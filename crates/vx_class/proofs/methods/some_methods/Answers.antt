use Rattle.std.proofs.Common.{[]}
use Rattle.std.proofs.lemmas.Result.{err_from_is_err_and}
use Rattle.vx_pool.specs.Reading.{steps, behind}
use Rattle.vx_pool.specs.Steps.{steps-goes_on, steps-ends, steps-done}
use Rattle.vx_class.specs.Members.{method_at}
use Rattle.vx_class.proofs.methods.some_methods.Goals as goal

pub returns-in_err-add_method : goal.returns-in_err-add_method
returns-in_err-add_method c =
    let p = err_from_is_err_and c.from_residual.result c.from_residual.ensures.1 in
    let item = method_at c.args.pool.now c.args.major in
    rw (p.1, p.2)
    (steps-ends c.in_err-add_method.field-0.0 (behind item) c.loop.methods.items c.args.count c.loop.counter c.loop.cursor (steps (behind item) [] c.args.count c.args.cursor.now)
    c.loop-test.true c.in_err-add_method.ensures.value c.loop.invariant.so_far)

pub loop-preserved : goal.loop-preserved
loop-preserved c =
    let item = method_at c.args.pool.now c.args.major in
    record {
      so_far =
          steps-goes_on (behind item) c.loop.methods.items c.add_method.new.methods.items c.args.count c.loop.counter c.loop.cursor c.add_method.new.cursor (steps (behind item) [] c.args.count c.args.cursor.now)
          c.loop-test.true c.in_ok-add_method.ensures.value c.loop.invariant.so_far;
      taken = c.in_ok-add_method.ensures.taken;
    }

pub returns : goal.returns
returns c =
    let item = method_at c.args.pool.now c.args.major in
    rw c.of.ensures (steps-done (behind item) c.loop.methods.items c.args.count c.loop.counter c.loop.cursor (steps (behind item) [] c.args.count c.args.cursor.now) c.loop-test.false c.loop.invariant.so_far)
