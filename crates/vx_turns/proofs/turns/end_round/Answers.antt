use Rattle.std.proofs.Common.{refl}
use Rattle.vx_turns.proofs.turns.end_round.Goals as goal

pub returns-clause-ok : goal.returns-clause-ok
returns-clause-ok g c = rw (← c.state.view_is) (rw c.in_ok-append.ensures.items refl)
