use Rattle.vx_group.proofs.GroupLaws.{IsGroup-path_known}
use Rattle.vx_group_states.proofs.PartLaws.{ended-gives}
use Rattle.vx_ready.proofs.Splitting.{none-gives}
use Rattle.vx_value.specs.declared.end.End.TheVariants.{Illegal}
use Rattle.vx_returns.specs.Handing.{ended_at}
use Rattle.vx_returns.proofs.receiving.misfits.Goals as goal

pub is_never-requires : goal.is_never-requires
is_never-requires g c = rw c.path.ensures (IsGroup-path_known _ c.args.group c.requires)

pub returns-then-is_never : goal.returns-then-is_never
returns-then-is_never g c = none-gives c.args.program.now (g.met.S.Space.lawful c.args.space.now) (λ s. ended_at c.args.program.now c.args.at) c.args.group c.path.result c.new-outcomes.result.items.items c.path.ensures (c.is_never.ensures.0 c.if-is_never.true) c.new-outcomes.ensures

pub returns : goal.returns
returns g c = rw (← c.in_ok-place.ensures) (ended-gives c.args.program.now _ c.args.group _ (Illegal c.in_ok-place.place) _ _ c.path-2.ensures c.new-outcomes.ensures c.in_ok-push.ensures.ok)
