use Rattle.std.proofs.Common.{◌<◌, arith, length, slice_set}
use Rattle.vx_java.specs.Machine.{Text}
use Rattle.vx_plain.proofs.Heaps.{object_written}
use Rattle.vx_plain.specs.Views.{state_of}
use Rattle.vx_plain.proofs.state.State.write_text.Goals as goal

pub returns : goal.returns
unfolding state_of
returns c =
    let inside : c.args.object < length c.args.self.now.heap.items = omega arith in
    let written = object_written c.args.self.now.heap.items c.args.object c.index_mut.result.now c.write_text.new.self (λ cells. slice_set cells 0 (Text c.args.units.items)) inside c.index_mut.ensures.value c.write_text.ensures in
    λ i. record (state_of c.args.self.now) { heap = written i }
