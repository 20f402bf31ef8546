use Rattle.std.proofs.Common.{[], arith, refl}
use Rattle.vx_gen.proofs.Loops.{bytes_from, bytes_step, done}
use Rattle.vx_gen.proofs.code.put_options.Goals as goal

pub loop-name-preserved : goal.loop-name-preserved
loop-name-preserved c = (
  bytes_step c.args.names.now c.loop-name._name-index (record { ref_ptr = (0, 0); now = [] }) c.args.at c.loop-name.reference c.loop-name.rest _ _ _ _ c.loop-name-test.true c.in_ok-put_choice.ensures c.in_ok-put_step.ensures c.loop-name.invariant.0,
  omega (arith, c.loop-name.invariant.1),
)

pub returns : goal.returns
returns c = done (bytes_from c.args.at c.loop-name.reference c.loop-name.rest) refl c.args.names.now c.loop-name._name-index _ _ c.loop-name-test.false c.loop-name.invariant.0
