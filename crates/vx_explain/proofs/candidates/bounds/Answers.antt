use Rattle.vx_explain.proofs.Explaining.{least_later, most_of}
use Rattle.vx_space.proofs.Spaces.{Extends-trans}
use Rattle.vx_explain.proofs.candidates.bounds.Goals as goal

pub returns-clause-least : goal.returns-clause-least
returns-clause-least g c = least_later (Extends-trans c.in_ok-outside.ensures.extends c.in_ok-most.ensures.extends) c.in_ok-least.least _ c.in_ok-least.ensures.ok

pub returns-clause-most : goal.returns-clause-most
returns-clause-most g c = most_of c.in_ok-least.ensures.extends c.in_ok-outside.ensures.extends c.args.set c.args.scope c.in_ok-outside.outside c.in_ok-most.most c.requires.set c.requires.scope c.in_ok-outside.ensures.ok c.in_ok-most.ensures.ok
