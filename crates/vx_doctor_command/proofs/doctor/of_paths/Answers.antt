use Rattle.std.proofs.Common.{map, string_bytes}
use Rattle.vx_plans.specs.Health.{model_part}
use Rattle.vx_plans.specs.Job.{is_dimacs_path}
use Rattle.vx_doctor_command.proofs.Telling.{said_behind}
use Rattle.vx_doctor_command.specs.Doctor.{doctor_classes, doctor_paths}
use Rattle.vx_doctor_command.proofs.doctor.of_paths.Goals as goal

pub returns-in-Ok-clause-given : goal.returns-in-Ok-clause-given
returns-in-Ok-clause-given g c text is =
    let w = c.args.words in
    let paths = map string_bytes c.args.paths.now in
    let next = doctor_classes w.model.now text w.main.now c.args.model.now paths in
    said_behind (g.F.Files.seen c.args.files.now) (g.F.Files.seen c.read_class_files.new.files) (doctor_paths w.folder.now w.model.now text w.main.now c.args.model.now paths) (next c.in-Ok.all.items) _
    (c.in-Ok.ensures.ok (model_part (is_dimacs_path w.model.now) text c.args.model.now) next) (c.of_classes.ensures text is)

pub returns-in-Err-clause-given : goal.returns-in-Err-clause-given
returns-in-Err-clause-given g c text is =
    let w = c.args.words in
    let next = doctor_classes w.model.now text w.main.now c.args.model.now (map string_bytes c.args.paths.now) in
    (c.in-Err.ensures.err (model_part (is_dimacs_path w.model.now) text c.args.model.now) next).to _ (rw is at c.stopped.ensures)
