use Rattle.std.proofs.Common.{codes, decimal, [], ◌∷◌}
use Rattle.vx_report.proofs.Numbered.{three}
use Rattle.vx_report.specs.Lines.{line_text, whole_line}
use Rattle.vx_report.proofs.writing.put_head.Goals as goal

pub returns : goal.returns
unfolding line_text whole_line
returns c = three c.args.out.now.items (codes "varexj report ") (decimal c.args.version) (10 ∷ []) _ _ _ c.in_ok-extend_from_slice.ensures.items c.in_ok-put_number.ensures.ok c.in_ok-extend_from_slice-2.ensures.items
