use Rattle.std.proofs.Common.{◌∙◌}
use Rattle.vx_group.proofs.GroupLaws.{IsGroup-path_known}
use Rattle.vx_group_states.proofs.PartLaws.{thrown-gives}
use Rattle.vx_group_states.proofs.answering.thrown_part.Goals as goal

pub slots_inside-requires-clause-known : goal.slots_inside-requires-clause-known
slots_inside-requires-clause-known g c = rw c.path.ensures (IsGroup-path_known _ c.args.part c.requires.group)

pub slots_inside-requires-clause-inside : goal.slots_inside-requires-clause-inside
slots_inside-requires-clause-inside g c = rw c.path.ensures c.requires.inside

pub returns-clause-gives : goal.returns-clause-gives
returns-clause-gives g c = λ program heap held. thrown-gives program c.in_ok-thrown.ensures.extends c.args.part c.args.answers.now c.in_ok-thrown.thrown _ _ c.in_ok-thrown.ensures.cond (c.in_ok-thrown.ensures.scope ∙ c.path.ensures) (rw c.path.ensures at c.in_ok-thrown.ensures.at) c.new-outcomes.ensures c.in_ok-push.ensures.ok heap held
