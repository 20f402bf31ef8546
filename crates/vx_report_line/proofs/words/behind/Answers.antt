use Rattle.vx_report_line.proofs.Cuts.{behind_by}
use Rattle.vx_report_line.proofs.words.behind.Goals as goal

pub returns : goal.returns
returns c = behind_by _ _ _ c.strip_prefix.ensures.cases
