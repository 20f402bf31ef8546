use Rattle.std.proofs.Common.{◌≡◌}
use Rattle.vx_heap.specs.Heap.{object_in}
use Rattle.std.proofs.lemmas.Result.{on_ok_weaker}
use Rattle.vx_heap.proofs.CellChanges.{IsCellWritten-parts}
use Rattle.vx_heap.proofs.Cells.{is_object_in, object_named}
use Rattle.vx_heap.proofs.heap.Heap.write_cell.Goals as goal

pub write-requires-clause-cells : goal.write-requires-clause-cells
write-requires-clause-cells g c =
    let object = object_named c.args.self.now c.args.reference c.index_mut-object.result.now c.requires.reference (rw (← c.self.view_is) c.index_mut-object.ensures.value) in
    (is_object_in _ c.args.self.now c.args.reference c.index_mut-object.result.now c.requires.heap c.requires.reference object).cells

pub write-requires-clause-presence : goal.write-requires-clause-presence
write-requires-clause-presence g c =
    let object = object_named c.args.self.now c.args.reference c.index_mut-object.result.now c.requires.reference (rw (← c.self.view_is) c.index_mut-object.ensures.value) in
    (is_object_in _ c.args.self.now c.args.reference c.index_mut-object.result.now c.requires.heap c.requires.reference object).known

pub write-requires-clause-inside : goal.write-requires-clause-inside
write-requires-clause-inside g c =
    let object : c.index_mut-object.result.now ≡ object_in c.args.self.now c.args.reference = object_named c.args.self.now c.args.reference c.index_mut-object.result.now c.requires.reference (rw (← c.self.view_is) c.index_mut-object.ensures.value) in
    rw object c.requires.inside

pub returns-clause-ok : goal.returns-clause-ok
returns-clause-ok g c =
    let object : c.index_mut-object.result.now ≡ object_in c.args.self.now c.args.reference = object_named c.args.self.now c.args.reference c.index_mut-object.result.now c.requires.reference (rw (← c.self.view_is) c.index_mut-object.ensures.value) in
    on_ok_weaker c.write.result (λ written. IsCellWritten-parts c.write.ensures.extends _ c.args.self.now c.self.view_is c.args.reference c.args.cell c.args.value.now c.index_mut-object.result.now c.write.new.self c.requires.heap c.requires.reference object c.requires.value (rw object c.requires.inside) c.requires.held written) c.write.ensures.ok
