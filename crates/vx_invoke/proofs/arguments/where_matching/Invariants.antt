use Rattle.vx_invoke.proofs.Fitting.{IsMatching}
use Rattle.vx_invoke.proofs.arguments.where_matching.Given as goal

abbrev pub invariant-loop-i : goal.invariant-loop-i
invariant-loop-i g l = IsMatching (g.S.Space.sets l.fn.space) (g.S.Space.sets l.space) l.group l.types l.i l.matching
