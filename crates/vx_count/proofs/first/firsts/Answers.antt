use Rattle.vx_count.proofs.Fronts.{first_found}
use Rattle.vx_count.proofs.first.firsts.Goals as goal

pub returns : goal.returns
returns g c = first_found c.args.n (g.S.Space.sets c.args.space.now).options c.options-left.result ((g.S.Space.sets c.args.space.now).test c.args.id) _ _ _ c.in_ok-push_firsts.ensures.found c.new-found.ensures.items c.new-front.ensures.items c.options-left.ensures
