use Rattle.std.proofs.lemmas.Result.{IfOk-weaker}
use Rattle.vx_group_states.proofs.passing.passed_part.Goals as goal

pub returns-then-not-holds : goal.returns-then-not-holds
returns-then-not-holds g c = rw c.if-not-holds.true (IfOk-weaker c.illegal.result _ _ (λ r h. h _) c.illegal.ensures)

pub returns : goal.returns
returns g c = rw c.if-not-holds.false c.in_ok-outcomes.ensures
