use Rattle.vx_explain.proofs.LeftOut.{never_is_not}
use Rattle.vx_explain.proofs.literals.is_not_always.Goals as goal

pub returns : goal.returns
returns g c = λ told. never_is_not (g.met.S.Space.lawful c.args.space.now) c.args.id (c.is_never.ensures.0 told)
