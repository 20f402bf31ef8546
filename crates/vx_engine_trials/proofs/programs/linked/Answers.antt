use Rattle.std.proofs.Common.{arith}
use Rattle.vx_engine_trials.proofs.Trials.{example_bounded}
use Rattle.vx_engine_trials.proofs.programs.linked.Goals as goal

pub returns-clause-bounded : goal.returns-clause-bounded
returns-clause-bounded c = example_bounded c.in_ok-classes.classes.items c.in_ok-model.model.options _ c.in_ok-program.program c.linked_are_bounded.ensures (omega (arith, c.in_ok-classes.ensures.few)) c.in_ok-classes.ensures.read c.in_ok-program.ensures
