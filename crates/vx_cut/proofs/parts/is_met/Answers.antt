use Rattle.vx_cut.proofs.Sets.{met_is}
use Rattle.vx_cut.proofs.parts.is_met.Goals as goal

pub returns-clause-met : goal.returns-clause-met
returns-clause-met g c =
    met_is (g.S.Space.sets c.args.space.now) _ (g.met.S.Space.lawful _) c.args.model.now c.args.allowed c.in_ok-part.part c.args.term.now c.is_never.result c.requires.options c.requires.allowed
    (record { extends = c.in_ok-part.ensures.extends; is = c.in_ok-part.ensures.set }) c.is_never.ensures
