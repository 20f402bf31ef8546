use Rattle.vx_report_line.proofs.Again.{found_by}
use Rattle.vx_report_line.proofs.Read.{spelled_by}
use Rattle.vx_report_line.proofs.parsing.line_in.Goals as goal

pub returns-clause-spelled : goal.returns-clause-spelled
returns-clause-spelled c = spelled_by _ _ c.in_ok-line.ensures

pub returns-clause-only : goal.returns-clause-only
returns-clause-only c = found_by _ _ c.in_ok-line.ensures
