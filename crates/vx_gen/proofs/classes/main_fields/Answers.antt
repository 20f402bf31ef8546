use Rattle.std.proofs.Common.{[], arith, refl}
use Rattle.vx_gen.specs.Parts.{field_list}
use Rattle.vx_gen.proofs.Loops.{done, field_step}
use Rattle.vx_gen.proofs.classes.main_fields.Goals as goal

pub loop-name-preserved : goal.loop-name-preserved
loop-name-preserved c = (
  field_step c.args.names.now c.loop-name._name-index (record { ref_ptr = (0, 0); now = [] }) c.loop-name.index _ _ _ c.loop-name-test.true c.in_ok-push.ensures.items c.loop-name.invariant.0,
  omega (arith, c.loop-name.invariant.1),
)

pub returns : goal.returns
returns c = done (field_list c.loop-name.index) refl c.args.names.now c.loop-name._name-index _ _ c.loop-name-test.false c.loop-name.invariant.0
