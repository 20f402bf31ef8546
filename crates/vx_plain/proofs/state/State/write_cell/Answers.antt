use Rattle.std.proofs.Common.{◌<◌, ap, arith, length, slice_set, ◌∙◌}
use Rattle.std.proofs.Math.Seq.{map-set_same}
use Rattle.std.proofs.lemmas.Result.{on_err_weaker, on_ok_weaker}
use Rattle.vx_plain.proofs.Heaps.{object_written}
use Rattle.vx_plain.specs.Views.{object_of, state_of, value_of}
use Rattle.vx_plain.proofs.state.State.write_cell.Goals as goal

pub returns-then-number-len-clause-ok : goal.returns-then-number-len-clause-ok
unfolding state_of
returns-then-number-len-clause-ok c =
    let inside : c.args.object < length c.args.self.now.heap.items = omega arith in
    on_ok_weaker c.write.result
    (λ made.
    let written = object_written c.args.self.now.heap.items c.args.object c.index_mut.result.now c.write.new.self (λ cells. slice_set cells c.args.place (value_of c.args.value)) inside c.index_mut.ensures.value made in
    λ i. record (state_of c.args.self.now) { heap = written i })
    c.write.ensures.ok

pub returns-then-number-len-clause-err : goal.returns-then-number-len-clause-err
unfolding state_of
returns-then-number-len-clause-err c =
    on_err_weaker c.write.result
    (λ kept.
    let same = map-set_same object_of c.args.self.now.heap.items c.args.object c.write.new.self c.index_mut.result.now (kept ∙ ap object_of c.index_mut.ensures.value) in
    λ i. record (state_of c.args.self.now) { heap = same i })
    c.write.ensures.err
