use Rattle.vx_effects.proofs.Runs.{IsWriting}
use Rattle.vx_effects.proofs.copying.write_row.Given as goal

abbrev pub invariant-loop-i : goal.invariant-loop-i
invariant-loop-i g l = IsWriting (g.S.Space.sets l.fn.space) (g.S.Space.sets l.space) l.fn.heap l.heap l.array l.to l.row l.i
