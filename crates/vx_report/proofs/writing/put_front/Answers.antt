use Rattle.vx_report.proofs.Numbered.{front_more}
use Rattle.vx_report.proofs.writing.put_front.Goals as goal

pub returns : goal.returns
returns c = front_more c.args.report.now _ _ _ _ _ c.as_slice.ensures c.in_ok-put_head.ensures c.in_ok-put_options.ensures.ok c.in_ok-put_bounds.ensures
