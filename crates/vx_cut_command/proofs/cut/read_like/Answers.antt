use Rattle.std.proofs.lemmas.Result.{err_from_is_err_and}
use Rattle.vx_plans.proofs.Plans.{keeps_same}
use Rattle.vx_cut_command.proofs.Sources.{passed_on}
use Rattle.vx_cut_command.proofs.cut.read_like.Goals as goal

pub returns-in-None-clause-ok : goal.returns-in-None-clause-ok
returns-in-None-clause-ok g c = rw c.in-None.is (λ next. passed_on _ next)

pub returns-in-None-clause-keeps : goal.returns-in-None-clause-keeps
returns-in-None-clause-keeps g c = keeps_same _

pub returns-in_err-read_report_of-in-Some-clause-err : goal.returns-in_err-read_report_of-in-Some-clause-err
returns-in_err-read_report_of-in-Some-clause-err g c =
    let p = err_from_is_err_and c.from_residual.result c.from_residual.ensures.1 in
    rw (p.1, p.2, c.in-Some.is) c.in_err-read_report_of-in-Some.ensures.err

pub returns-in_ok-read_report_of-in-Some-clause-ok : goal.returns-in_ok-read_report_of-in-Some-clause-ok
returns-in_ok-read_report_of-in-Some-clause-ok g c = rw c.in-Some.is c.in_ok-read_report_of-in-Some.ensures.ok
