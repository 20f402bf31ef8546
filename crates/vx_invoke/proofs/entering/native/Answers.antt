use Rattle.vx_invoke.proofs.EnterLaws.{native-gives}
use Rattle.vx_invoke.proofs.entering.native.Goals as goal

pub returns : goal.returns
returns g c = λ program sets. native-gives program sets c.args.group c.args.method _ _ c.new-outcomes.ensures c.in_ok-push.ensures.ok
