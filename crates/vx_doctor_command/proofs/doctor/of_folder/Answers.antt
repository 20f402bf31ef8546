use Rattle.std.proofs.Common.{map, string_bytes}
use Rattle.vx_plans.proofs.Plans.{keeps_then}
use Rattle.vx_plans.specs.Health.{model_part}
use Rattle.vx_plans.specs.Job.{is_dimacs_path}
use Rattle.vx_doctor_command.proofs.Telling.{given_behind, listed_gives, unlisted_ends}
use Rattle.vx_doctor_command.specs.Doctor.{doctor_folder, doctor_paths}
use Rattle.vx_doctor_command.proofs.doctor.of_folder.Goals as goal

pub of_paths-requires-clause-few : goal.of_paths-requires-clause-few
of_paths-requires-clause-few g c = rw c.as_slice.ensures.value c.in-Ok.ensures.few

pub returns-in-Ok-clause-given : goal.returns-in-Ok-clause-given
returns-in-Ok-clause-given g c text is =
    let w = c.args.words in
    let front = model_part (is_dimacs_path w.model.now) text c.args.model.now in
    let next = doctor_paths w.folder.now w.model.now text w.main.now c.args.model.now in
    given_behind (g.F.Files.seen c.args.files.now) (g.F.Files.seen c.list_class_files.new.files) (g.F.Files.seen c.of_paths.new.files) (doctor_folder w.folder.now w.model.now text w.main.now c.args.model.now) (next (map string_bytes c.in-Ok.paths.items)) _
    c.in-Ok.ensures.keeps (listed_gives _ front w.folder.now (map string_bytes c.in-Ok.paths.items) next c.in-Ok.ensures.listed) (rw c.as_slice.ensures.value at (c.of_paths.ensures.given text is))

pub returns-in-Ok-clause-keeps : goal.returns-in-Ok-clause-keeps
returns-in-Ok-clause-keeps g c = keeps_then c.in-Ok.ensures.keeps c.of_paths.ensures.keeps

pub returns-in-Err-clause-given : goal.returns-in-Err-clause-given
returns-in-Err-clause-given g c text is =
    let w = c.args.words in
    let front = model_part (is_dimacs_path w.model.now) text c.args.model.now in
    (unlisted_ends (g.F.Files.seen c.args.files.now) (g.F.Files.seen c.list_class_files.new.files) front w.folder.now (doctor_paths w.folder.now w.model.now text w.main.now c.args.model.now) c.in-Err.refusal c.in-Err.ensures.err).to _ (rw is at c.unread.ensures)
