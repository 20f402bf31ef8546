use Rattle.vx_space.specs.Sets.{IsKnown}
use Rattle.vx_bdd_bench.proofs.problems.equalities.Given as goal

abbrev pub invariant-loop-i : goal.invariant-loop-i
invariant-loop-i g l = IsKnown (g.S.Space.sets l.space) l.all
