use Rattle.std.proofs.lemmas.Result.{err_from_is_err_and}
use Rattle.vx_plans.specs.Plan.{attempt}
use Rattle.vx_check_commands.specs.Check.{expected_in}
use Rattle.vx_check_commands.proofs.Checks.{expected_err, expected_ok}
use Rattle.vx_check_commands.proofs.check.read_expected_file.Goals as goal

pub returns-in_err-bytes-clause-err : goal.returns-in_err-bytes-clause-err
returns-in_err-bytes-clause-err g c =
    let p = err_from_is_err_and c.from_residual.result c.from_residual.ensures.1 in
    rw (p.1, p.2) (λ next. c.in_err-bytes.ensures.err (λ bytes. attempt (expected_in c.args.report.now bytes) next))

pub returns-clause-ok : goal.returns-clause-ok
returns-clause-ok g c =
    expected_ok (g.F.Files.seen c.args.files.now).held c.args.path.now c.args.report.now c.in_ok-bytes.bytes.items c.expected_in.result c.in_ok-bytes.ensures.ok (rw c.as_slice.ensures.value at c.expected_in.ensures.exact)

pub returns-clause-err : goal.returns-clause-err
returns-clause-err g c =
    expected_err (g.F.Files.seen c.args.files.now) (g.F.Files.seen c.read_file.new.files) c.args.path.now c.args.report.now c.in_ok-bytes.bytes.items c.expected_in.result c.in_ok-bytes.ensures.keeps c.in_ok-bytes.ensures.ok (rw c.as_slice.ensures.value at c.expected_in.ensures.exact)
