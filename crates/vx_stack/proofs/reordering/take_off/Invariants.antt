use Rattle.vx_stack.proofs.OrderLaws.{IsTaking}
use Rattle.vx_stack.proofs.reordering.take_off.Given as goal

abbrev pub invariant-loop-operand : goal.invariant-loop-operand
invariant-loop-operand g l = IsTaking (g.S.Space.sets l.space) l.initial.stack l.stack l.taken l._operand
