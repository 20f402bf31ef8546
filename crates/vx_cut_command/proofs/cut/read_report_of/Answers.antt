use Rattle.std.proofs.lemmas.Result.{err_from_is_err_and}
use Rattle.vx_plans.specs.Plan.{unless}
use Rattle.vx_cut_command.specs.Cut.{unlike_model}
use Rattle.vx_cut_command.proofs.Sources.{like_err, like_lawful, like_ok}
use Rattle.vx_cut_command.proofs.cut.read_report_of.Goals as goal

pub returns-in_err-report-clause-err : goal.returns-in_err-report-clause-err
returns-in_err-report-clause-err g c =
    let p = err_from_is_err_and c.from_residual.result c.from_residual.ensures.1 in
    rw (p.1, p.2) (λ next. c.in_err-report.ensures.err (λ report. unless (unlike_model report c.args.model.now) next))

pub returns-clause-ok : goal.returns-clause-ok
returns-clause-ok g c = like_ok (g.F.Files.seen c.args.files.now).held c.args.path.now c.args.model.now c.in_ok-report.report c.like.result c.in_ok-report.ensures.ok c.like.ensures

pub returns-clause-lawful : goal.returns-clause-lawful
returns-clause-lawful g c = like_lawful c.args.model.now c.in_ok-report.report c.like.result c.in_ok-report.ensures.lawful c.like.ensures

pub returns-clause-err : goal.returns-clause-err
returns-clause-err g c =
    like_err (g.F.Files.seen c.args.files.now) (g.F.Files.seen c.read_report_file.new.files) c.args.path.now c.args.model.now c.in_ok-report.report c.like.result c.in_ok-report.ensures.keeps c.in_ok-report.ensures.ok c.like.ensures
