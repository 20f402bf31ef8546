use Rattle.vx_init.proofs.ClimbLaws.{IsRising}
use Rattle.vx_init.proofs.rising.rises.Given as goal

abbrev pub invariant-loop-below : goal.invariant-loop-below
invariant-loop-below g l = IsRising l.program (g.S.Space.sets l.fn.space) (g.S.Space.sets l.space) l.heap l.fn.class.0 l.fn.path l.below l.next l.rises
