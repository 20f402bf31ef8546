use Rattle.vx_container_trials.proofs.Trials.{sides_apart}
use Rattle.vx_container_trials.proofs.conds.sides.Goals as goal

pub returns-clause-apart : goal.returns-clause-apart
returns-clause-apart g c = sides_apart c.in_ok-off.ensures.extends _ _ _ c.in_ok-on.ensures.known c.in_ok-off.ensures.ok
