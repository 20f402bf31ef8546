use Rattle.vx_report_reader.proofs.Read.{found_lawful}
use Rattle.vx_report_reader.proofs.Verdicts.{only_reading, cut_off}
use Rattle.vx_report_reader.proofs.reading.read_report.Goals as goal

pub returns-clause-only : goal.returns-clause-only
returns-clause-only c = only_reading _ _ c.report_in.ensures.found c.report_in.ensures.fault

pub returns-clause-lawful : goal.returns-clause-lawful
returns-clause-lawful c = found_lawful _ _ c.report_in.ensures.found

pub returns-clause-cut : goal.returns-clause-cut
returns-clause-cut c = cut_off _ _ c.report_in.ensures.found c.report_in.ensures.fault
