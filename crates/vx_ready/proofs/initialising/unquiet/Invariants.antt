use Rattle.vx_ready.proofs.Climbing.{IsClimbing}
use Rattle.vx_ready.proofs.initialising.unquiet.Given as goal

abbrev pub invariant-loop-left : goal.invariant-loop-left
invariant-loop-left g l = IsClimbing l.program (g.S.Space.sets l.fn.space) (g.S.Space.sets l.space) l.heap l.fn.class.0 l.fn.path l.left l.next l.climbing l.unquiet

abbrev pub decreases-loop-left : goal.decreases-loop-left
decreases-loop-left g l = l.left
