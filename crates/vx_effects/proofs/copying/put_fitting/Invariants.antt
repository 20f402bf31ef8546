use Rattle.vx_effects.proofs.Copied.{IsPutting}
use Rattle.vx_effects.proofs.copying.put_fitting.Given as goal

abbrev pub invariant-loop-i : goal.invariant-loop-i
invariant-loop-i g l = IsPutting l.program l.component (g.S.Space.sets l.fn.space) (g.S.Space.sets l.space) l.heap l.array l.from l.i l.fn.row.scope l.row l.fitting
