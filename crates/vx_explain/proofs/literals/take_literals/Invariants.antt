use Rattle.std.proofs.Common.{drop}
use Rattle.vx_explain.proofs.FirstLiterals.{IsTaking}
use Rattle.vx_explain.proofs.literals.take_literals.Given as goal

abbrev pub invariant-loop-literal : goal.invariant-loop-literal
invariant-loop-literal g l = IsTaking (g.S.Space.sets l.fn.space) (g.S.Space.sets l.space) l.fn.least l.most l.fn.taken.items l.all (drop l.literal-index l.all) l.taken.items l.rest
