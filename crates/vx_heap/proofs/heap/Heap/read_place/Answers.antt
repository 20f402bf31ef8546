use Rattle.vx_cond.specs.Cond.{IsInside}
use Rattle.vx_heap.proofs.Cells.{IsCellRead-within, is_object_in}
use Rattle.vx_heap.proofs.heap.Heap.read_place.Goals as goal

pub read-requires-clause-cells : goal.read-requires-clause-cells
read-requires-clause-cells g c = (is_object_in _ c.args.self.now c.args.reference c.object-object.result.now c.requires.heap c.requires.reference c.object-object.ensures).cells

pub read-requires-clause-inside : goal.read-requires-clause-inside
read-requires-clause-inside g c = rw c.object-object.ensures c.requires.inside

pub returns-clause-ok : goal.returns-clause-ok
returns-clause-ok g c =
    let inside : IsInside (g.S.Space.sets c.args.space.now) c.args.path c.object-object.result.now.presence = rw c.object-object.ensures c.requires.inside in
    IsCellRead-within (g.met.S.Space.lawful c.read.new.space) c.in_ok-value.ensures.extends c.args.self.now c.args.reference c.args.place c.args.path c.object-object.result.now c.in_ok-value.value c.requires.heap c.requires.reference c.object-object.ensures c.requires.known inside c.in_ok-value.ensures.ok
