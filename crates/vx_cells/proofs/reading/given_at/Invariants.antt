use Rattle.vx_cells.proofs.Giving.{IsGiving}
use Rattle.vx_cells.proofs.reading.given_at.Given as goal

abbrev pub invariant-loop-leaf : goal.invariant-loop-leaf
invariant-loop-leaf g l = IsGiving (g.S.Space.sets l.fn.space) (g.S.Space.sets l.space) l.heap l.places l.fn.answers l.leaf-index l.made
