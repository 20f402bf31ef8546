use Rattle.vx_summary.proofs.Pieces.{all_out}
use Rattle.vx_summary.proofs.summary.put_pieces.Goals as goal

pub returns : goal.returns
returns c = all_out c.args.report.now c.args.c.now _ _ _ _ c.as_slice-piece-items.ensures c.loop-piece-test.false c.loop-piece.invariant
