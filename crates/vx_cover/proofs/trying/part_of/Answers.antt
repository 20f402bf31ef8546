use Rattle.vx_cover.proofs.Meeting.{IsPart-met}
use Rattle.vx_cover.proofs.trying.part_of.Goals as goal

pub returns-clause-part : goal.returns-clause-part
returns-clause-part g c = IsPart-met c.args.met c.args.set c.in-Some.both (rw c.in-Some.is at c.in_ok-found.ensures.set) (λ e. cc (c.if-is_never.ensures.1 e))
