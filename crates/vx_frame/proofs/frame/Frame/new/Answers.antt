use Rattle.vx_frame.proofs.FrameMakes.{IsFrameOf-new}
use Rattle.vx_frame.proofs.frame.Frame.new.Goals as goal

pub returns-clause-ok : goal.returns-clause-ok
returns-clause-ok g c = IsFrameOf-new _ c.args.scope _ _ _ _ _ c.requires c.in_ok-unset_locals.ensures.scope c.in_ok-unset_locals.ensures.row c.in_ok-unset_locals.ensures.slots c.new.ensures
