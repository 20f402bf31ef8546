use Rattle.vx_report.proofs.Numbered.{found_more}
use Rattle.vx_report.proofs.writing.put_found.Goals as goal

pub returns : goal.returns
returns c = found_more c.args.report.now _ _ _ _ _ _ _ c.as_slice.ensures c.as_slice-2.ensures c.as_slice-3.ensures c.in_ok-put_pieces.ensures c.in_ok-put_ends.ensures c.in_ok-put_all_attempts.ensures
