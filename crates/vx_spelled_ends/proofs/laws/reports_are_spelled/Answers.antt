use Rattle.vx_spelled_ends.proofs.Reports.{report_spelled}
use Rattle.vx_spelled_ends.proofs.laws.reports_are_spelled.Goals as goal

pub returns : goal.returns
returns c = λ p configs limit version sound. report_spelled p sound limit configs version
