use Rattle.vx_group_states.proofs.PartLaws.{ended-gives}
use Rattle.vx_group_states.proofs.answering.ended_part.Goals as goal

pub returns : goal.returns
returns g c = λ program sets. ended-gives program sets c.args.part.now _ c.args.end _ _ c.path.ensures c.new-outcomes.ensures c.in_ok-push.ensures.ok
