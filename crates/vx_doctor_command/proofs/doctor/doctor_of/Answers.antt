use Rattle.std.proofs.Common.{inl, refl}
use Rattle.std.proofs.lemmas.Result.{err_from_is_err_and}
use Rattle.vx_plans.proofs.Plans.{keeps_then}
use Rattle.vx_plans.specs.Health.{first_line}
use Rattle.vx_plans.specs.Sized.{most_bytes}
use Rattle.vx_doctor_command.proofs.Telling.{given_behind, told_gives, unread_ends}
use Rattle.vx_doctor_command.specs.Doctor.{doctor_plan, doctor_text}
use Rattle.vx_doctor_command.proofs.doctor.doctor_of.Goals as goal

pub returns-in-Ok-clause-given : goal.returns-in-Ok-clause-given
returns-in-Ok-clause-given g c =
    let w = c.args.words in
    let next = doctor_text w.folder.now w.model.now w.main.now in
    given_behind (g.F.Files.seen c.args.files.now) (g.F.Files.seen c.read_file.new.files) (g.F.Files.seen c.of_text.new.files) (doctor_plan w.folder.now w.model.now w.main.now) (next c.in-Ok.text.items) _
    c.in-Ok.ensures.keeps (told_gives _ first_line most_bytes w.model.now w.model.now c.in-Ok.text.items next c.in-Ok.ensures.read) (rw c.as_slice.ensures.value at c.of_text.ensures.given)

pub returns-in-Ok-clause-keeps : goal.returns-in-Ok-clause-keeps
returns-in-Ok-clause-keeps g c = keeps_then c.in-Ok.ensures.keeps c.of_text.ensures.keeps

pub returns-in_ok-first_line-in-Err-clause-given : goal.returns-in_ok-first_line-in-Err-clause-given
returns-in_ok-first_line-in-Err-clause-given g c =
    let w = c.args.words in
    (unread_ends (g.F.Files.seen c.args.files.now) (g.F.Files.seen c.read_file.new.files) first_line most_bytes w.model.now w.model.now (doctor_text w.folder.now w.model.now w.main.now) c.in-Err.refusal c.in-Err.ensures.err).to _ (rw c.in_ok-first_line-in-Err.ensures at c.unread.ensures)

pub returns-in_err-first_line-in-Err-clause-given : goal.returns-in_err-first_line-in-Err-clause-given
returns-in_err-first_line-in-Err-clause-given g c =
    let p = err_from_is_err_and c.from_residual.result c.from_residual.ensures.1 in
    rw (p.1, p.2) (inl refl)
