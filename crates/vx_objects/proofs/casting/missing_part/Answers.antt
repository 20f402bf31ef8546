use Rattle.std.proofs.lemmas.Result.{IfOk-weaker}
use Rattle.vx_group.proofs.GroupLaws.{IsGroup-path_known}
use Rattle.vx_group_states.specs.Sites.{here}
use Rattle.vx_java.specs.Machine.{unsupported}
use Rattle.vx_java.specs.Operation.{class_word}
use Rattle.vx_link.specs.Names.{class_name}
use Rattle.vx_ready.proofs.Splitting.{none-gives}
use Rattle.vx_objects.proofs.casting.missing_part.Goals as goal

pub is_never-requires : goal.is_never-requires
is_never-requires g c = rw c.path.ensures (IsGroup-path_known _ c.args.group c.requires)

pub returns-then-is_never : goal.returns-then-is_never
returns-then-is_never g c = none-gives c.args.site.now.program.now (g.met.S.Space.lawful c.args.space.now) (λ s. unsupported (here c.args.site.now s) class_word (class_name (here c.args.site.now s).pool c.args.index)) c.args.group c.path.result c.new.result.items.items c.path.ensures (c.is_never.ensures.0 c.if-is_never.true) c.new.ensures

pub returns : goal.returns
returns g c = IfOk-weaker c.no_class.result _ _ (λ r h. h _) c.no_class.ensures
