use Rattle.std.proofs.Common.{◌∙◌, ◌≡◌}
use Rattle.std.proofs.lemmas.Result.{err_from_is_err_and}
use Rattle.vx_inputs.specs.Folder.{or_bad_class, place_of}
use Rattle.vx_inputs.specs.Traced.{traced_of}
use Rattle.vx_plans.specs.Sized.{most_bytes}
use Rattle.vx_doctor_command.proofs.Telling.{class_err, class_ok, memory_ends, unread_ends}
use Rattle.vx_doctor_command.specs.Doctor.{read_class_told}
use Rattle.vx_doctor_command.specs.Saying.{say_class, value_or_say}
use Rattle.vx_doctor_command.proofs.reading.read_class_file.Goals as goal

pub returns-in_err-place-clause-err : goal.returns-in_err-place-clause-err
returns-in_err-place-clause-err g c =
    let p = err_from_is_err_and c.from_residual.result c.from_residual.ensures.1 in
    rw (p.1, p.2) (λ front next. memory_ends (g.F.Files.seen c.args.files.now) (g.F.Files.seen c.args.files.now) (read_class_told front c.args.folder.now c.args.path.now next) front)

pub returns-in-Ok-clause-ok : goal.returns-in-Ok-clause-ok
returns-in-Ok-clause-ok g c =
    let place : c.as_str.result.now ≡ place_of c.args.folder.now c.args.path.now = c.as_str.ensures.value ∙ c.in_ok-place.ensures in
    class_ok _ c.args.folder.now c.args.path.now c.in-Ok.bytes.items c.taken_from.result (rw place at c.in-Ok.ensures.read) c.taken_from.ensures.taken

pub returns-in-Ok-clause-err : goal.returns-in-Ok-clause-err
returns-in-Ok-clause-err g c =
    let place : c.as_str.result.now ≡ place_of c.args.folder.now c.args.path.now = c.as_str.ensures.value ∙ c.in_ok-place.ensures in
    class_err (g.F.Files.seen c.args.files.now) (g.F.Files.seen c.read_file.new.files) c.args.folder.now c.args.path.now c.in-Ok.bytes.items c.taken_from.result (rw place at c.in-Ok.ensures.read) c.taken_from.ensures.taken

pub returns-clause-err : goal.returns-clause-err
returns-clause-err g c front next =
    let place : c.as_str.result.now ≡ place_of c.args.folder.now c.args.path.now = c.as_str.ensures.value ∙ c.in_ok-place.ensures in
    unread_ends (g.F.Files.seen c.args.files.now) (g.F.Files.seen c.read_file.new.files) front most_bytes (place_of c.args.folder.now c.args.path.now) c.args.path.now
    (λ text. value_or_say (or_bad_class c.args.path.now (traced_of text)) (say_class front text) next) c.in-Err.refusal (λ n. rw place at (c.in-Err.ensures.err n))
