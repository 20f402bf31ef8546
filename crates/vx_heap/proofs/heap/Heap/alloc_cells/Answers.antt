use Rattle.vx_heap.proofs.Making.{IsMade-plain}
use Rattle.vx_heap.proofs.heap.Heap.alloc_cells.Goals as goal

pub returns-clause-ok : goal.returns-clause-ok
returns-clause-ok g c = rw (c.in_ok-reference.ensures.ok, c.in_ok-reference.ensures.made, c.in_ok-cells.ensures) (λ sets v k. IsMade-plain sets c.args.self.now c.args.class c.args.size c.args.path c.args.slots.now v k c.requires.size c.requires.enough c.requires.slots)
