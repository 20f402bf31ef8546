use Rattle.vx_reporting.proofs.AllLines.{written_text}
use Rattle.vx_reporting.proofs.OneText.{only_text}
use Rattle.vx_reporting.proofs.reporting.report_findings.Goals as goal

pub returns-clause-reported : goal.returns-clause-reported
returns-clause-reported g c =
    written_text (g.S.Space.sets c.args.space.now) c.args.version c.args.options c.args.limit c.args.findings c.in_ok-report.report c.write_report.result c.in_ok-report.ensures c.write_report.ensures

pub returns-clause-only : goal.returns-clause-only
returns-clause-only g c = only_text c.args.version c.args.options c.args.limit c.write_report.result
