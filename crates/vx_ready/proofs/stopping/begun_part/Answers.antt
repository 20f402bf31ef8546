use Rattle.vx_group.proofs.GroupLaws.{IsGroup-path_known}
use Rattle.vx_java.specs.Machine.{Begin}
use Rattle.vx_ready.proofs.Splitting.{begun-gives, none-gives}
use Rattle.vx_ready.proofs.stopping.begun_part.Goals as goal

pub is_never-requires : goal.is_never-requires
is_never-requires g c = rw c.path.ensures (IsGroup-path_known _ c.args.group c.requires)

pub returns-then-is_never : goal.returns-then-is_never
returns-then-is_never g c = none-gives c.args.site.now.program.now (g.met.S.Space.lawful c.args.space.now) (λ s. Begin c.args.class.0 s) c.args.group c.path.result c.new-outcomes.result.items.items c.path.ensures (c.is_never.ensures.0 c.if-is_never.true) c.new-outcomes.ensures

pub returns : goal.returns
returns g c = begun-gives c.args.site.now.program.now _ c.args.group c.args.class _ _ c.new-outcomes.ensures c.in_ok-push.ensures.ok
