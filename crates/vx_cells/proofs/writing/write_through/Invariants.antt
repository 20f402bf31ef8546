use Rattle.vx_cells.proofs.WrittenThrough.{IsWriting}
use Rattle.vx_cells.proofs.writing.write_through.Given as goal

abbrev pub invariant-loop-leaf : goal.invariant-loop-leaf
invariant-loop-leaf g l = IsWriting (g.S.Space.sets l.fn.space) (g.S.Space.sets l.space) l.fn.heap l.heap l.places l.values l.leaf-index
