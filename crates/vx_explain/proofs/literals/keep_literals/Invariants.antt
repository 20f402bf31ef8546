use Rattle.std.proofs.Common.{drop}
use Rattle.vx_explain.proofs.FirstLiterals.{IsKeeping}
use Rattle.vx_explain.proofs.literals.keep_literals.Given as goal

abbrev pub invariant-loop-at : goal.invariant-loop-at
invariant-loop-at g l = IsKeeping (g.S.Space.sets l.fn.space) (g.S.Space.sets l.space) l.least l.fn.kept.items l.taken l.kept.items (drop l.at l.taken)
