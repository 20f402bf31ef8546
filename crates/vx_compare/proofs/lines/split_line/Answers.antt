use Rattle.std.proofs.Common.{◌∙◌, ap, arith}
use Rattle.vx_compare.specs.Lines.{lines_of}
use Rattle.vx_compare.proofs.FirstLines.{line_cut, lines_cut}
use Rattle.vx_compare.proofs.lines.split_line.Goals as goal

pub returns-clause-first : goal.returns-clause-first
returns-clause-first c = c.split_at.ensures.front ∙ line_cut c.args.text.now c.line_length.result _ c.line_length.ensures.value (omega arith)

pub returns-clause-rest : goal.returns-clause-rest
returns-clause-rest c = ap lines_of c.split_at.ensures.back ∙ lines_cut c.args.text.now c.line_length.result _ c.line_length.ensures.value (omega arith)
