use Rattle.std.proofs.lemmas.Result.{err_from_is_err_and}
use Rattle.vx_plans.specs.Plan.{As_report}
use Rattle.vx_inputs.proofs.Inputs.{report_err, report_ok}
use Rattle.vx_inputs.proofs.reports.read_report_file.Goals as goal

pub returns-in_err-bytes-clause-err : goal.returns-in_err-bytes-clause-err
returns-in_err-bytes-clause-err g c =
    let p = err_from_is_err_and c.from_residual.result c.from_residual.ensures.1 in
    rw (p.1, p.2) (λ next. c.in_err-bytes.ensures.err (λ bytes. As_report bytes next))

pub returns-clause-ok : goal.returns-clause-ok
returns-clause-ok g c = report_ok (g.F.Files.seen c.args.files.now).held c.args.path.now c.in_ok-bytes.bytes.items c.report_in.result c.in_ok-bytes.ensures.ok (rw c.as_slice.ensures.value at c.report_in.ensures.ok)

pub returns-clause-err : goal.returns-clause-err
returns-clause-err g c = report_err (g.F.Files.seen c.args.files.now) (g.F.Files.seen c.read_file.new.files) c.args.path.now c.in_ok-bytes.bytes.items c.report_in.result c.in_ok-bytes.ensures.keeps c.in_ok-bytes.ensures.ok (rw c.as_slice.ensures.value at c.report_in.ensures.err)
