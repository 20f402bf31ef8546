use Rattle.vx_kept_states.proofs.States.{keeps_frames, keeps_outcomes}
use Rattle.vx_kept_states.proofs.states_keep_facts.Goals as goal

pub returns : goal.returns
returns g c = λ p whole allowed limit sets st is. (keeps_frames p whole allowed limit sets st is, keeps_outcomes p whole allowed limit sets st is)
