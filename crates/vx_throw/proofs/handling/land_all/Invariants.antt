use Rattle.vx_throw.proofs.LandingLaws.{IsLanding}
use Rattle.vx_throw.proofs.handling.land_all.Given as goal

abbrev pub invariant-loop-leaf : goal.invariant-loop-leaf
invariant-loop-leaf g l = IsLanding (g.S.Space.sets l.fn.space) (g.S.Space.sets l.space) l.fn.group l.objects l.handlers l.leaf-index l.rest l.outcomes.items.items
