use Rattle.std.proofs.Common.{◌<◌, arith, length}
use Rattle.vx_plain.proofs.Heaps.{object_written}
use Rattle.vx_plain.specs.Views.{state_of, values_of}
use Rattle.vx_plain_natives.proofs.cells.put_cells.Goals as goal

pub returns : goal.returns
unfolding state_of
returns c =
    let inside : c.args.object < length c.args.state.now.heap.items = omega arith in
    let written = object_written c.args.state.now.heap.items c.args.object c.index_mut.result.now c.set_cells.new.object (λ cells. values_of c.args.cells.items) inside c.index_mut.ensures.value c.set_cells.ensures in
    λ i. record (state_of c.args.state.now) { heap = written i }
