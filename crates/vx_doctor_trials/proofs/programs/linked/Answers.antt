use Rattle.std.proofs.Common.{arith}
use Rattle.vx_doctor_trials.proofs.programs.linked.Goals as goal

pub returns : goal.returns
returns c =
    (c.linked_are_bounded.ensures c.in_ok-classes.classes.items c.in_ok-model.model.options _ c.in_ok-program.program (omega (arith, c.in_ok-classes.ensures.few)) c.in_ok-classes.ensures.read c.in_ok-program.ensures).0
