use Rattle.std.proofs.Common.{drop}
use Rattle.vx_explain.proofs.FirstLiterals.{IsLeaving}
use Rattle.vx_explain.proofs.literals.left_by.Given as goal

abbrev pub invariant-loop-literal : goal.invariant-loop-literal
invariant-loop-literal g l = IsLeaving (g.S.Space.sets l.fn.space) (g.S.Space.sets l.space) l.fn.set l.literals (drop l.literal-index l.literals) l.rest
