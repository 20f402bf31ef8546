use Rattle.vx_doctor_command.proofs.saying.stopped.Goals as goal

pub returns-in-NoClass : goal.returns-in-NoClass
returns-in-NoClass c = rw c.in-NoClass.is (rw c.as_slice.ensures.value at c.bad_class.ensures)
