use Rattle.std.proofs.lemmas.Result.{err_from_is_err_and}
use Rattle.vx_inputs.specs.Reports.{read_report}
use Rattle.vx_plans.proofs.Plans.{keeps_then, stops_behind}
use Rattle.vx_check_commands.specs.Compare.{compare_plan, compare_reports}
use Rattle.vx_check_commands.proofs.Comparisons.{compare_err, compare_ok}
use Rattle.vx_check_commands.proofs.compare.compare_of.Goals as goal

pub returns-in_err-one-clause-err : goal.returns-in_err-one-clause-err
returns-in_err-one-clause-err g c =
    let p = err_from_is_err_and c.from_residual.result c.from_residual.ensures.1 in
    rw (p.1, p.2) (c.in_err-one.ensures.err (λ report. read_report c.args.words.other.now (compare_reports report)))

pub returns-in_err-other-clause-err : goal.returns-in_err-other-clause-err
returns-in_err-other-clause-err g c =
    let p = err_from_is_err_and c.from_residual-in_err-other.result c.from_residual-in_err-other.ensures.1 in
    let w = c.args.words in
    rw (p.1, p.2) (stops_behind (g.F.Files.seen c.args.files.now) (g.F.Files.seen c.read_report_file.new.files) (g.F.Files.seen c.read_report_file-2.new.files) (compare_plan w.report.now w.other.now) (read_report w.other.now (compare_reports c.in_ok-one.one)) _ c.in_ok-one.ensures.keeps
    (c.in_ok-one.ensures.ok (λ report. read_report w.other.now (compare_reports report))) (c.in_err-other.ensures.err (compare_reports c.in_ok-one.one)))

pub returns-clause-ok : goal.returns-clause-ok
returns-clause-ok g c =
    let w = c.args.words in
    compare_ok (g.F.Files.seen c.args.files.now) (g.F.Files.seen c.read_report_file.new.files) (g.F.Files.seen c.read_report_file-2.new.files) w.report.now w.other.now c.in_ok-one.one c.in_ok-other.other c.comparing.result
    c.in_ok-one.ensures.keeps c.in_ok-one.ensures.ok c.in_ok-other.ensures.ok c.comparing.ensures

pub returns-clause-err : goal.returns-clause-err
returns-clause-err g c =
    let w = c.args.words in
    compare_err (g.F.Files.seen c.args.files.now) (g.F.Files.seen c.read_report_file.new.files) (g.F.Files.seen c.read_report_file-2.new.files) w.report.now w.other.now c.in_ok-one.one c.in_ok-other.other c.comparing.result
    c.in_ok-one.ensures.keeps c.in_ok-other.ensures.keeps c.in_ok-one.ensures.ok c.in_ok-other.ensures.ok c.comparing.ensures

pub returns-clause-keeps : goal.returns-clause-keeps
returns-clause-keeps g c = keeps_then c.in_ok-one.ensures.keeps c.in_ok-other.ensures.keeps
