use Rattle.vx_cells.proofs.Passing.{IsPassing}
use Rattle.vx_cells.proofs.refusing.passes_at.Given as goal

abbrev pub invariant-loop-leaf : goal.invariant-loop-leaf
invariant-loop-leaf g l = IsPassing l.program (g.S.Space.sets l.fn.space) (g.S.Space.sets l.space) l.fn.heap l.heap l.places l.leaf-index l.answers
