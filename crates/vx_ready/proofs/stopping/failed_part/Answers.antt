use Rattle.std.proofs.lemmas.Result.{IfOk-weaker}
use Rattle.vx_group.proofs.GroupLaws.{IsGroup-path_known}
use Rattle.vx_java.specs.Machine.{raise}
use Rattle.vx_group_states.specs.Sites.{here}
use Rattle.vx_ready.proofs.Splitting.{none-gives}
use Rattle.vx_ready.proofs.stopping.failed_part.Goals as goal

pub is_never-requires : goal.is_never-requires
is_never-requires g c = rw c.path.ensures (IsGroup-path_known _ c.args.group c.requires.group)

pub returns-then-is_never : goal.returns-then-is_never
returns-then-is_never g c = none-gives c.args.site.now.program.now (g.met.S.Space.lawful c.args.space.now) (λ s. raise (here c.args.site.now s) "java/lang/NoClassDefFoundError") c.args.group c.path.result c.new.result.items.items c.path.ensures (c.is_never.ensures.0 c.if-is_never.true) c.new.ensures

pub returns : goal.returns
returns g c = IfOk-weaker c.raise.result _ _ (λ r h. h _) c.raise.ensures
