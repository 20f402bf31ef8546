use Rattle.vx_heap.proofs.Copying.{AreCellsWithin-end, IsCopying-start, IsCopying-step, next_inside}
use Rattle.vx_heap.proofs.cell_list.put_inside.Goals as goal

pub loop-cell-init : goal.loop-cell-init
loop-cell-init g c = rw c.requires.none (IsCopying-start _ c.args.path c.args.cells.now)

pub cell_inside-requires-clause-cell : goal.cell_inside-requires-clause-cell
cell_inside-requires-clause-cell g c = next_inside c.args.path c.args.presence c.args.cells.now _ c.cell-item.result _ c.requires.cells c.loop-cell-test.true c.cell-item.is c.requires.known c.loop-cell.invariant c.requires.presence c.requires.inside

pub loop-cell-preserved : goal.loop-cell-preserved
loop-cell-preserved g c = rw c.in_ok-push.ensures (IsCopying-step c.args.path c.args.presence c.args.cells.now _ c.cell-item.result _ c.requires.cells c.loop-cell-test.true c.cell-item.is c.requires.known c.loop-cell.invariant c.in_ok-inner.inner c.in_ok-inner.ensures.extends c.in_ok-inner.ensures.ok)

pub returns-clause-ok : goal.returns-clause-ok
returns-clause-ok g c = AreCellsWithin-end c.args.path c.args.cells.now _ _ c.loop-cell.invariant c.loop-cell-test.false
