use Rattle.vx_group_states.proofs.AnswerLaws.{IsDropping}
use Rattle.vx_group_states.proofs.answering.drop_operands.Given as goal

abbrev pub invariant-loop-operand : goal.invariant-loop-operand
invariant-loop-operand g l = IsDropping (g.S.Space.sets l.space) l.initial.stack l.stack l._operand
