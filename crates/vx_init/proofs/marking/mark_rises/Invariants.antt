use Rattle.vx_init.proofs.MarkLaws.{AreMarked}
use Rattle.vx_init.proofs.marking.mark_rises.Given as goal

abbrev pub invariant-loop-leaf : goal.invariant-loop-leaf
invariant-loop-leaf g l = AreMarked l.program l.class.0 l.frames (g.S.Space.sets l.fn.space) (g.S.Space.sets l.space) l.fn.heap l.heap l.rises l.leaf-index
