use Rattle.vx_plans.proofs.Plans.{keeps_same}
use Rattle.vx_check_commands.proofs.Checks.{passed_on}
use Rattle.vx_check_commands.proofs.check.read_any_expected.Goals as goal

pub returns-in-None-clause-ok : goal.returns-in-None-clause-ok
returns-in-None-clause-ok g c = rw (c.in-None.is, c.new.ensures.items) (λ next. passed_on _ _)

pub returns-in-None-clause-keeps : goal.returns-in-None-clause-keeps
returns-in-None-clause-keeps g c = keeps_same _

pub returns-in-Some-clause-ok : goal.returns-in-Some-clause-ok
returns-in-Some-clause-ok g c = rw c.in-Some.is c.read_expected_file.ensures.ok

pub returns-in-Some-clause-err : goal.returns-in-Some-clause-err
returns-in-Some-clause-err g c = rw c.in-Some.is c.read_expected_file.ensures.err
