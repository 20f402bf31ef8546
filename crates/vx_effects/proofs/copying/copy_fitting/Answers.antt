use Rattle.std.proofs.Common.{◌≡◌, ◌∙◌, ap}
use Rattle.vx_cells.proofs.Somewhere.{somewhere_later}
use Rattle.vx_cond.specs.Row.{Conditionals}
use Rattle.vx_heap.proofs.HeapLaws.{IsHeap-extends}
use Rattle.vx_space.proofs.Spaces.{Extends-trans}
use Rattle.vx_value.specs.declared.slot.Slot.{Slot}
use Rattle.vx_effects.proofs.CopyRows.{AreCopied-done, array-inside, array-there, other-later}
use Rattle.vx_effects.proofs.copying.copy_fitting.Goals as goal

pub put_fitting-requires-clause-array : goal.put_fitting-requires-clause-array
put_fitting-requires-clause-array g c = array-there _ c.args.heap.now c.args.condition c.args.array c.args.from c.args.other c.args.to c.args.count c.requires.held c.requires.somewhere

pub put_fitting-requires-clause-known : goal.put_fitting-requires-clause-known
put_fitting-requires-clause-known g c = rw c.new-row.ensures c.requires.known

pub put_fitting-requires-clause-inside : goal.put_fitting-requires-clause-inside
put_fitting-requires-clause-inside g c = rw c.new-row.ensures (array-inside _ c.args.heap.now c.args.condition c.args.array c.args.from c.args.other c.args.to c.args.count c.requires.held)

pub put_fitting-requires-clause-none : goal.put_fitting-requires-clause-none
put_fitting-requires-clause-none g c = ap (λ (r : Conditionals Slot _ _). r.conds) c.new-row.ensures

pub write_row-requires-clause-heap : goal.write_row-requires-clause-heap
write_row-requires-clause-heap g c = IsHeap-extends c.in_ok-fitting.ensures.extends c.args.heap.now c.requires.heap

pub write_row-requires-clause-few : goal.write_row-requires-clause-few
write_row-requires-clause-few g c = rw c.in_ok-fitting.ensures.ok.number c.requires.room

pub write_row-requires-clause-known : goal.write_row-requires-clause-known
write_row-requires-clause-known g c = rw (c.in_ok-fitting.ensures.scope, c.new-row.ensures) (c.in_ok-fitting.ensures.extends.known c.args.condition c.requires.known)

pub write_row-requires-clause-somewhere : goal.write_row-requires-clause-somewhere
write_row-requires-clause-somewhere g c = rw (c.in_ok-fitting.ensures.scope, c.new-row.ensures) (somewhere_later c.in_ok-fitting.ensures.extends c.args.condition c.requires.known c.requires.somewhere)

pub write_row-requires-clause-object : goal.write_row-requires-clause-object
write_row-requires-clause-object g c = rw (c.in_ok-fitting.ensures.scope, c.new-row.ensures) (other-later _ c.args.heap.now c.args.condition c.args.array c.args.from c.args.other c.args.to c.args.count c.requires.held c.in_ok-fitting.ensures.extends c.requires.heap c.requires.known)

pub write_row-requires-clause-parts : goal.write_row-requires-clause-parts
write_row-requires-clause-parts g c = rw c.in_ok-fitting.ensures.scope c.in_ok-fitting.ensures.ok.are_parts

pub returns-clause-extends : goal.returns-clause-extends
returns-clause-extends g c = Extends-trans c.in_ok-fitting.ensures.extends c.in_ok-write_row.ensures.extends

pub returns-clause-ok : goal.returns-clause-ok
returns-clause-ok g c =
    let read = rw c.new-row.ensures at c.in_ok-fitting.ensures.ok in
    let written = rw (c.in_ok-fitting.ensures.scope, c.new-row.ensures) at c.in_ok-write_row.ensures.ok in
    AreCopied-done c.args.program.now c.args.component c.in_ok-fitting.ensures.extends c.in_ok-write_row.ensures.extends c.args.heap.now c.write_row.new.heap c.args.condition c.in_ok-fitting.fitting c.args.array c.args.from c.args.other c.args.to c.args.count c.put_fitting.new.row.conds c.requires.heap c.requires.known read written
