use Rattle.std.proofs.Common.{ap}
use Rattle.vx_plans.specs.Job.{or_bad_model}
use Rattle.vx_doctor_command.proofs.Telling.{fault_said}
use Rattle.vx_doctor_command.proofs.doctor.of_text.Goals as goal

pub returns-in-Ok-clause-given : goal.returns-in-Ok-clause-given
returns-in-Ok-clause-given g c = rw (ap or_bad_model c.in-Ok.ensures.exact) c.of_model.ensures.given

pub returns-in-Err-clause-given : goal.returns-in-Err-clause-given
returns-in-Err-clause-given g c =
    let w = c.args.words in
    fault_said (g.F.Files.seen c.args.files.now) w.folder.now w.model.now w.main.now c.args.text.now c.in-Err.fault _ c.in-Err.ensures.exact c.unspelled.ensures
