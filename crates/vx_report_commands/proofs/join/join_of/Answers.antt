use Rattle.std.proofs.Common.{map, string_bytes}
use Rattle.std.proofs.lemmas.Result.{err_from_is_err_and}
use Rattle.vx_report_commands.specs.Join.{join_reports}
use Rattle.vx_report_commands.proofs.Joins.{join_err, join_ok}
use Rattle.vx_report_commands.proofs.join.join_of.Goals as goal

pub joining-requires : goal.joining-requires
joining-requires g c = rw c.as_slice.ensures.value c.in_ok-reports.ensures.lawful

pub returns-in_err-reports-clause-err : goal.returns-in_err-reports-clause-err
returns-in_err-reports-clause-err g c =
    let p = err_from_is_err_and c.from_residual.result c.from_residual.ensures.1 in
    rw (p.1, p.2) (c.in_err-reports.ensures.err join_reports)

pub returns-clause-ok : goal.returns-clause-ok
returns-clause-ok g c =
    join_ok (g.F.Files.seen c.args.files.now) (g.F.Files.seen c.read_report_files.new.files) (map string_bytes c.args.words.reports.now) c.in_ok-reports.reports.items c.joining.result c.in_ok-reports.ensures.ok (rw c.as_slice.ensures.value at c.joining.ensures)

pub returns-clause-err : goal.returns-clause-err
returns-clause-err g c =
    join_err (g.F.Files.seen c.args.files.now) (g.F.Files.seen c.read_report_files.new.files) (map string_bytes c.args.words.reports.now) c.in_ok-reports.reports.items c.joining.result c.in_ok-reports.ensures.keeps c.in_ok-reports.ensures.ok (rw c.as_slice.ensures.value at c.joining.ensures)
