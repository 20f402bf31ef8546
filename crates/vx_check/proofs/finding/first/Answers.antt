use Rattle.vx_check.proofs.Found.{first_alone}
use Rattle.vx_check.proofs.finding.first.Goals as goal

pub returns : goal.returns
returns g c = first_alone (g.S.Space.sets c.args.space.now).options ((g.S.Space.sets c.args.space.now).test c.args.set) c.in_ok-found.found.items c.pop-first.new.self.items c.pop-first.result _ _ c.in_ok-found.ensures c.pop-first.ensures.items c.pop-first.new.self.ok.0 c.pop-first.ensures.cases
