use Rattle.vx_heap.proofs.Making.{MakesObject-filled}
use Rattle.vx_heap.proofs.heap.Heap.alloc_array.Goals as goal

pub returns-clause-ok : goal.returns-clause-ok
returns-clause-ok g c = rw (c.in_ok-reference.ensures.ok, c.in_ok-reference.ensures.made) (MakesObject-filled c.args.self.now c.args.class c.args.count c.args.path c.args.element c.in_ok-cells.cells c.requires.count c.requires.element c.in_ok-cells.ensures)
