use Rattle.std.proofs.Common.{arith, get_or, refl}
use Rattle.vx_java.specs.Step.{start}
use Rattle.vx_plain.specs.Views.{state_of}
use Rattle.vx_trace.proofs.Chained.{one_chained}
use Rattle.vx_trace.specs.TraceText.{lines_in}
use Rattle.vx_trace.proofs.throwable.put_chain.Goals as goal

pub loop-object-preserved : goal.loop-object-preserved
loop-object-preserved c =
    let o = c.args.origin.now in
    let s = state_of c.args.state.now in
    let at = c.loop-object in
    rw c.as_slice-caption-in-loop-object.ensures
    (one_chained o.program.now s (lines_in o (start o.program.now o.config.now) s) _ at.out.items c.extend_from_slice.new.self.items c.put_throwable.new.out.items at.caption.now at.above.items c.in_ok-above.above.items
    c.args.chain.now at.object-index (get_or c.args.chain.now at.object-index 0) refl (omega (arith, c.loop-object-test.true)) at.invariant c.in_ok-extend_from_slice.ensures.items
    (rw c.as_slice.ensures.value at c.in_ok-above.ensures.text) c.in_ok-above.ensures.lines)
