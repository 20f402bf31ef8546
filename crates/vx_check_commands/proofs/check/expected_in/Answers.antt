use Rattle.std.proofs.Common.{ap, inr}
use Rattle.vx_check_commands.specs.Check.{or_bad_expected}
use Rattle.vx_check_commands.proofs.check.expected_in.Goals as goal

pub returns-in-Ok-clause-exact : goal.returns-in-Ok-clause-exact
returns-in-Ok-clause-exact c = ap or_bad_expected c.in-Ok.ensures.exact

pub returns-in-Err-Line-clause-exact : goal.returns-in-Err-Line-clause-exact
returns-in-Err-Line-clause-exact c = inr (ap or_bad_expected (rw c.in-Err-Line.field-0-is at c.in-Err-Line.ensures.exact))
