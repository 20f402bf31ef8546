use Rattle.vx_cover.proofs.Meeting.{IsMember-part}
use Rattle.vx_cover.proofs.trying.configuration.Goals as goal

pub returns-clause-member : goal.returns-clause-member
returns-clause-member g c = IsMember-part c.in_ok-met.ensures.extends c.args.first c.in_ok-met.met c.in_ok-c.c c.in_ok-met.ensures.part c.in_ok-c.ensures
