use Rattle.std.proofs.Common.{refl}
use Rattle.std.proofs.lemmas.Result.{on_err_weaker, on_ok_weaker}
use Rattle.vx_turns.proofs.upkeep.sweep.Goals as goal

pub returns-clause-ok : goal.returns-clause-ok
returns-clause-ok g c = rw (← c.state.view_is) (on_ok_weaker c.sweep.result (λ h. record { swept = rw c.as_slice.ensures at h; rest = refl }) c.sweep.ensures.ok)

pub returns-clause-err : goal.returns-clause-err
returns-clause-err g c = rw (← c.state.view_is) (on_err_weaker c.sweep.result (λ h. rw h refl) c.sweep.ensures.err)
