use Rattle.vx_inputs.proofs.Allowing.{allows_none, allows_some, turned_none, turned_some}
use Rattle.vx_inputs.proofs.modeling.is_allowing.Goals as goal

pub returns-clause-some : goal.returns-clause-some
returns-clause-some g c e = allows_some c.args.model.now (g.S.Space.sets c.args.space.now) c.args.allowed (g.met.S.Space.lawful c.args.space.now) c.requires (turned_some c.is_never.result _ c.is_never.ensures e)

pub returns-clause-nonempty : goal.returns-clause-nonempty
returns-clause-nonempty g c e = turned_some c.is_never.result _ c.is_never.ensures e

pub returns-clause-none : goal.returns-clause-none
returns-clause-none g c e = allows_none c.args.model.now (g.S.Space.sets c.args.space.now) c.args.allowed (g.met.S.Space.lawful c.args.space.now) c.requires (turned_none c.is_never.result _ c.is_never.ensures e)
