use Rattle.std.proofs.lemmas.Result.{err_from_is_err_and}
use Rattle.vx_report_commands.specs.Project.{projected, project_report, project_plan}
use Rattle.vx_plans.proofs.Plans.{value_ok, value_err}
use Rattle.vx_report_commands.proofs.project.projection.Goals as goal

pub returns-in_err-report-clause-err : goal.returns-in_err-report-clause-err
returns-in_err-report-clause-err g c =
    let p = err_from_is_err_and c.from_residual.result c.from_residual.ensures.1 in
    rw (p.1, p.2) (c.in_err-report.ensures.err (project_report c.args.words.configuration.now))

pub returns-clause-ok : goal.returns-clause-ok
returns-clause-ok g c =
    let w = c.args.words in
    value_ok (g.F.Files.seen c.args.files.now) (g.F.Files.seen c.read_report_file.new.files) (project_plan w.report.now w.configuration.now) (projected c.in_ok-report.report w.configuration.now) c.projected.result
    (c.in_ok-report.ensures.ok (project_report w.configuration.now)) c.projected.ensures

pub returns-clause-err : goal.returns-clause-err
returns-clause-err g c =
    let w = c.args.words in
    value_err (g.F.Files.seen c.args.files.now) (g.F.Files.seen c.read_report_file.new.files) (project_plan w.report.now w.configuration.now) (projected c.in_ok-report.report w.configuration.now) c.projected.result c.in_ok-report.ensures.keeps
    (c.in_ok-report.ensures.ok (project_report w.configuration.now)) c.projected.ensures
