use Rattle.vx_group_states.proofs.PartLaws.{ended-gives}
use Rattle.vx_value.specs.declared.end.End.TheVariants.{Return}
use Rattle.vx_returns.proofs.leaving.all_end.Goals as goal

pub returns : goal.returns
returns g c = λ program sets. ended-gives program sets c.args.group.now _ Return _ _ c.path.ensures c.new-outcomes.ensures c.in_ok-push.ensures.ok
