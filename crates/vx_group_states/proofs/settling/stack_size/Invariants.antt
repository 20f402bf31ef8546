use Rattle.vx_group_states.proofs.Fitting.{IsSized}
use Rattle.vx_group_states.proofs.settling.stack_size.Given as goal

abbrev pub invariant-loop-i : goal.invariant-loop-i
invariant-loop-i g l = IsSized (g.S.Space.sets l.fn.space) (g.S.Space.sets l.space) l.stack 0 l.i l.total
