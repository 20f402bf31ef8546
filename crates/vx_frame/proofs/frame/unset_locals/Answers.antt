use Rattle.vx_frame.proofs.FrameMakes.{AreUnset-start, AreUnset-step}
use Rattle.vx_frame.proofs.frame.unset_locals.Goals as goal

pub loop-local-init : goal.loop-local-init
loop-local-init g c = AreUnset-start _ _ _ c.requires c.new-row.ensures

pub loop-local-preserved : goal.loop-local-preserved
loop-local-preserved g c = rw c.in_ok-push.ensures.ok (AreUnset-step _ _ _ _ c.in_ok-one.field-0 c.loop-local.invariant c.in_ok-one.ensures.scope c.in_ok-one.ensures.ok)
