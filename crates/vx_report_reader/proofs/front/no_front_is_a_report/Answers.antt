use Rattle.vx_report_reader.proofs.Verdicts.{no_front}
use Rattle.vx_report_reader.proofs.front.no_front_is_a_report.Goals as goal

pub returns : goal.returns
returns c = λ bytes cut report. no_front bytes report cut
