use Rattle.vx_group_states.proofs.PartLaws.{jumped-gives}
use Rattle.vx_group_states.proofs.answering.jumped_part.Goals as goal

pub returns : goal.returns
returns g c = λ program. jumped-gives program _ c.args.part c.moved_to-moved.result c.args.taken c.args.position _ c.moved_to-moved.ensures.same c.moved_to-moved.ensures.row c.moved_to-moved.ensures.scope c.moved_to-moved.ensures.at c.in_ok-outcomes.ensures.one
