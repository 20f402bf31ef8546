use Rattle.vx_throw.proofs.EndLaws.{IsEnding}
use Rattle.vx_throw.proofs.uncaught.ends.Given as goal

abbrev pub invariant-loop-leaf : goal.invariant-loop-leaf
invariant-loop-leaf g l = IsEnding l.program (g.S.Space.sets l.space) l.classes l.leaf-index l.outcomes.items.items
