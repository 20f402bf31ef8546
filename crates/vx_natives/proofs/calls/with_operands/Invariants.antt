use Rattle.vx_natives.proofs.Arguing.{IsArguing}
use Rattle.vx_natives.proofs.calls.with_operands.Given as goal

abbrev pub invariant-loop-i : goal.invariant-loop-i
invariant-loop-i g l = IsArguing l.program l.heap l.descriptor l.types l.stack (g.S.Space.sets l.fn.space) (g.S.Space.sets l.space) l.fn.start l.i l.calls
