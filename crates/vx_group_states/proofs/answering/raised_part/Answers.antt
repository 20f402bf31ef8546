use Rattle.vx_group_states.proofs.PartLaws.{raised-gives}
use Rattle.vx_group_states.proofs.answering.raised_part.Goals as goal

pub returns : goal.returns
returns g c = λ program sets. raised-gives program sets c.args.part c.args.class c.args.message _ _ c.new-outcomes.ensures c.in_ok-push.ensures.ok
