use Rattle.vx_report.proofs.Output.{output_more, output_whole, shown_bytes}
use Rattle.vx_report.proofs.projection.put_output.Goals as goal

pub loop-piece-preserved : goal.loop-piece-preserved
loop-piece-preserved c = output_more _ _ _ _ _ _ _ _ _ _ c.loop-piece-test.true c.piece-item.is c.loop-piece.invariant c.in_ok-now.ensures.text c.in_ok-now.ensures.open_line

pub returns : goal.returns
returns c = rw (← c.as_slice-nodes.ensures, ← c.as_slice-piece-items.ensures)
    (output_whole _ _ _ _ _ _ _ _ (shown_bytes c.as_slice-nodes.result.now c.args.c.now c.as_slice-piece-items.result.now) c.loop-piece-test.false c.loop-piece.invariant c.in_ok-put_line_end.ensures)
