use Rattle.vx_frame.proofs.FrameMakes.{AreUnset}
use Rattle.vx_frame.proofs.frame.unset_locals.Given as goal

abbrev pub invariant-loop-local : goal.invariant-loop-local
invariant-loop-local g l = AreUnset (g.S.Space.sets l.fn.space) l.fn.scope l._local l.row
