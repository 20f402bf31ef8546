use Rattle.std.proofs.Common.{◌++◌, ◌∙◌, ◌≡◌, sym}
use Rattle.vx_plans.specs.Health.{model_part}
use Rattle.vx_plans.specs.Job.{is_dimacs_path}
use Rattle.vx_plans.specs.declared.status.Status.TheVariants.{NoConfiguration}
use Rattle.vx_doctor_command.proofs.Telling.{allowed_given, is_said, model_parts, none_given}
use Rattle.vx_doctor_command.specs.Doctor.{doctor_folder}
use Rattle.vx_doctor_command.specs.Saying.{none_line, say_none}
use Rattle.vx_doctor_command.proofs.doctor.of_model.Goals as goal

pub returns-then-is_allowing-clause-given : goal.returns-then-is_allowing-clause-given
returns-then-is_allowing-clause-given g c =
    let w = c.args.words in
    let text = c.args.text.now in
    let model = c.in_ok-modeled.modeled.model in
    let front : c.put_model.new.out.items ≡ model_part (is_dimacs_path w.model.now) text model = rw c.requires.front at c.in_ok-put_model.ensures.text ∙ model_parts w.model.now text model in
    rw (sym c.in_ok-modeled.ensures.model) (allowed_given (g.F.Files.seen c.args.files.now) (g.F.Files.seen c.of_folder.new.files) model (say_none w.model.now text model) (doctor_folder w.folder.now w.model.now text w.main.now model) _
    (c.is_allowing.ensures.some c.if-is_allowing.true) (c.of_folder.ensures.given text front))

pub returns-clause-given : goal.returns-clause-given
returns-clause-given g c =
    let w = c.args.words in
    let text = c.args.text.now in
    let model = c.in_ok-modeled.modeled.model in
    let front : c.put_model.new.out.items ≡ model_part (is_dimacs_path w.model.now) text model = rw c.requires.front at c.in_ok-put_model.ensures.text ∙ model_parts w.model.now text model in
    rw (sym c.in_ok-modeled.ensures.model) (none_given (g.F.Files.seen c.args.files.now) (g.F.Files.seen c.args.files.now) model (say_none w.model.now text model) (doctor_folder w.folder.now w.model.now text w.main.now model) _
    (c.is_allowing.ensures.none c.if-is_allowing.false) (is_said (model_part (is_dimacs_path w.model.now) text model ++ none_line) NoConfiguration _ (rw front at c.in_ok-none_allowed.ensures)))
