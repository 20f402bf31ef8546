use Rattle.vx_one_report.proofs.OneReport.{reports_one}
use Rattle.vx_one_report.proofs.reports_are_one.Goals as goal

pub returns : goal.returns
returns c = reports_one
