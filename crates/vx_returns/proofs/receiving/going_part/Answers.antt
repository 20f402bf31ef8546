use Rattle.std.proofs.lemmas.Result.{IfOk-weaker}
use Rattle.vx_group.proofs.GroupLaws.{IsGroup-path_known}
use Rattle.vx_java.specs.Machine.{Go}
use Rattle.vx_ready.proofs.Splitting.{none-gives}
use Rattle.vx_returns.proofs.ReceiveLaws.{going-gives}
use Rattle.vx_returns.proofs.receiving.going_part.Goals as goal

pub is_never-requires : goal.is_never-requires
is_never-requires g c = rw c.path.ensures (IsGroup-path_known _ c.args.group c.requires)

pub returns-then-is_never : goal.returns-then-is_never
returns-then-is_never g c = λ program. none-gives program (g.met.S.Space.lawful c.args.space.now) Go c.args.group c.path.result c.new.result.items.items c.path.ensures (c.is_never.ensures.0 c.if-is_never.true) c.new.ensures

pub returns : goal.returns
returns g c =
    IfOk-weaker c.go.result _ _ (λ r' h'. λ program. going-gives program _ c.args.group _ h')
    c.go.ensures.one
