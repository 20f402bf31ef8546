use Rattle.std.proofs.Common.{lit≤}
use Rattle.vx_report_line.proofs.Numbers.{number_in_when}
use Rattle.vx_report_line.proofs.words.number.Goals as goal

pub returns : goal.returns
returns c = number_in_when _ _ _ (lit≤ tt) c.printed_u64.ensures
