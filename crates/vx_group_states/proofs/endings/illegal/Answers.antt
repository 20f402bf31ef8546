use Rattle.vx_group_states.proofs.EndingLaws.{illegal-gives}
use Rattle.vx_group_states.proofs.endings.illegal.Goals as goal

pub returns : goal.returns
returns g c = λ sets. illegal-gives c.args.program.now sets c.args.group.now _ _ _ _ c.path.ensures (rw c.top_frame-top.ensures at c.in_ok-place.ensures) c.new-outcomes.ensures c.in_ok-push.ensures.ok
