use Rattle.vx_copy.proofs.ClonedLeaves.{IsCloning}
use Rattle.vx_copy.proofs.cloning.clones.Given as goal

abbrev pub invariant-loop-leaf : goal.invariant-loop-leaf
invariant-loop-leaf g l = IsCloning l.program (g.S.Space.sets l.fn.space) (g.S.Space.sets l.space) l.fn.heap l.heap l.receivers l.leaf-index l.initial.answers l.answers
