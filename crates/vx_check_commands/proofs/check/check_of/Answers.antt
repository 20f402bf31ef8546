use Rattle.std.proofs.Common.{option_map}
use Rattle.std.proofs.lemmas.Result.{err_from_is_err_and}
use Rattle.vx_plans.proofs.Plans.{keeps_then, stops_behind}
use Rattle.vx_check_commands.specs.Check.{check_plan, check_report, read_expected}
use Rattle.vx_check_commands.proofs.Checks.{check_err, check_ok}
use Rattle.vx_check_commands.proofs.check.check_of.Goals as goal

pub returns-in_err-report-clause-err : goal.returns-in_err-report-clause-err
returns-in_err-report-clause-err g c =
    let p = err_from_is_err_and c.from_residual.result c.from_residual.ensures.1 in
    let w = c.args.words in
    rw (p.1, p.2) (c.in_err-report.ensures.err (λ r. read_expected (option_map (λ p. p.now) w.expected) r (check_report r)))

pub returns-in_err-expected-clause-err : goal.returns-in_err-expected-clause-err
returns-in_err-expected-clause-err g c =
    let p = err_from_is_err_and c.from_residual-in_err-expected.result c.from_residual-in_err-expected.ensures.1 in
    let w = c.args.words in
    let file = option_map (λ p. p.now) w.expected in
    let report = c.in_ok-report.report in
    rw (p.1, p.2) (stops_behind (g.F.Files.seen c.args.files.now) (g.F.Files.seen c.read_report_file.new.files) (g.F.Files.seen c.read_any_expected.new.files) (check_plan w.report.now file) (read_expected file report (check_report report)) _
    c.in_ok-report.ensures.keeps (c.in_ok-report.ensures.ok (λ r. read_expected file r (check_report r))) (c.in_err-expected.ensures.err (check_report report)))

pub returns-clause-ok : goal.returns-clause-ok
returns-clause-ok g c =
    let w = c.args.words in
    check_ok (g.F.Files.seen c.args.files.now) (g.F.Files.seen c.read_report_file.new.files) (g.F.Files.seen c.read_any_expected.new.files) w.report.now (option_map (λ p. p.now) w.expected) c.in_ok-report.report c.in_ok-expected.expected.items c.checking.result
    c.in_ok-report.ensures.keeps c.in_ok-report.ensures.ok c.in_ok-expected.ensures.ok (rw c.as_slice.ensures.value at c.checking.ensures)

pub returns-clause-err : goal.returns-clause-err
returns-clause-err g c =
    let w = c.args.words in
    check_err (g.F.Files.seen c.args.files.now) (g.F.Files.seen c.read_any_expected.new.files) w.report.now (option_map (λ p. p.now) w.expected) c.in_ok-report.report c.in_ok-expected.expected.items c.checking.result (rw c.as_slice.ensures.value at c.checking.ensures)

pub returns-clause-keeps : goal.returns-clause-keeps
returns-clause-keeps g c = keeps_then c.in_ok-report.ensures.keeps c.in_ok-expected.ensures.keeps
