use Rattle.std.proofs.Common.{◌∙◌}
use Rattle.vx_report_reader.proofs.Good.{lawful_good}
use Rattle.vx_report_reader.proofs.again.read_written.Goals as goal

pub returns : goal.returns
returns c = c.read_report.ensures.only.report c.args.report.now (record { text = c.as_slice.ensures.value ∙ c.in_ok-text.ensures; good = lawful_good c.args.report.now c.requires })
