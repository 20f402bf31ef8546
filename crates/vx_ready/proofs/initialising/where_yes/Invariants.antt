use Rattle.vx_ready.proofs.Yes.{IsNoSoFar}
use Rattle.vx_ready.proofs.initialising.where_yes.Given as goal

abbrev pub invariant-loop-leaf : goal.invariant-loop-leaf
invariant-loop-leaf g l = IsNoSoFar (g.S.Space.sets l.space) l.leaves l.leaf-index
