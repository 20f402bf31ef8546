use Rattle.vx_stack.proofs.OrderLaws.{IsPutting}
use Rattle.vx_stack.proofs.reordering.put_on.Given as goal

abbrev pub invariant-loop-i : goal.invariant-loop-i
invariant-loop-i g l = IsPutting (g.S.Space.sets l.fn.space) (g.S.Space.sets l.space) l.initial.stack l.stack l.values l.count l.i
