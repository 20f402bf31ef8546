use Rattle.std.proofs.lemmas.Result.{err_from_is_err_and}
use Rattle.vx_report_commands.specs.Assemble.{assembled, asm_plan}
use Rattle.vx_plans.specs.Job.{Exactly}
use Rattle.vx_plans.specs.Plan.{Write, attempt}
use Rattle.vx_plans.proofs.Plans.{value_ok, value_err}
use Rattle.vx_report_commands.proofs.assemble.class_file.Goals as goal

pub returns-in_err-bytes-clause-err : goal.returns-in_err-bytes-clause-err
returns-in_err-bytes-clause-err g c =
    let p = err_from_is_err_and c.from_residual.result c.from_residual.ensures.1 in
    rw (p.1, p.2) (c.in_err-bytes.ensures.err (λ bytes. attempt (assembled bytes) (λ text. Write (Exactly text))))

pub returns-clause-ok : goal.returns-clause-ok
returns-clause-ok g c =
    value_ok (g.F.Files.seen c.args.files.now) (g.F.Files.seen c.read_file.new.files) (asm_plan c.args.source.now) (assembled c.in_ok-bytes.bytes.items) c.assembled.result
    (c.in_ok-bytes.ensures.ok (λ bytes. attempt (assembled bytes) (λ text. Write (Exactly text)))) (rw c.as_slice.ensures.value at c.assembled.ensures)

pub returns-clause-err : goal.returns-clause-err
returns-clause-err g c =
    value_err (g.F.Files.seen c.args.files.now) (g.F.Files.seen c.read_file.new.files) (asm_plan c.args.source.now) (assembled c.in_ok-bytes.bytes.items) c.assembled.result c.in_ok-bytes.ensures.keeps
    (c.in_ok-bytes.ensures.ok (λ bytes. attempt (assembled bytes) (λ text. Write (Exactly text)))) (rw c.as_slice.ensures.value at c.assembled.ensures)
