use Rattle.vx_cond.specs.Cond.{IsInside}
use Rattle.vx_heap.proofs.Cells.{is_object_in}
use Rattle.vx_heap.proofs.Copying.{IsMadeAt-copied}
use Rattle.vx_heap.proofs.heap.Heap.copy_object.Goals as goal

pub inside-requires-clause-cells : goal.inside-requires-clause-cells
inside-requires-clause-cells g c = (is_object_in _ c.args.self.now c.args.object c.object-original.result.now c.requires.heap c.requires.object c.object-original.ensures).cells

pub inside-requires-clause-presence : goal.inside-requires-clause-presence
inside-requires-clause-presence g c = (is_object_in _ c.args.self.now c.args.object c.object-original.result.now c.requires.heap c.requires.object c.object-original.ensures).known

pub inside-requires-clause-inside : goal.inside-requires-clause-inside
inside-requires-clause-inside g c = rw c.object-original.ensures c.requires.inside

pub returns-clause-ok : goal.returns-clause-ok
returns-clause-ok g c =
    let inside : IsInside (g.S.Space.sets c.args.space.now) c.args.path c.object-original.result.now.presence = rw c.object-original.ensures c.requires.inside in
    rw (c.in_ok-copy.ensures.ok, c.in_ok-copy.ensures.made) (IsMadeAt-copied c.in_ok-cells.ensures.extends c.args.self.now c.args.object c.args.path c.object-original.result.now c.in_ok-cells.cells c.requires.heap c.requires.object c.object-original.ensures c.requires.known inside c.in_ok-cells.ensures.ok)
