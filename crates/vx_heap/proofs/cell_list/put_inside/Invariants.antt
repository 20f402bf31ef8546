use Rattle.vx_heap.proofs.Copying.{IsCopying}
use Rattle.vx_heap.proofs.cell_list.put_inside.Given as goal

abbrev pub invariant-loop-cell : goal.invariant-loop-cell
invariant-loop-cell g l = IsCopying (g.S.Space.sets l.fn.space) (g.S.Space.sets l.space) l.path l.cells l.cell-index l.made
