use Rattle.vx_doctor_command.proofs.saying.unspelled.Goals as goal

pub returns-in-Line : goal.returns-in-Line
returns-in-Line c = rw c.in-Line.is c.bad_model.ensures
