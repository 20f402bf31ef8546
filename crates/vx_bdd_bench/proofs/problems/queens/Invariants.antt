use Rattle.vx_space.specs.Sets.{IsKnown}
use Rattle.vx_bdd_bench.proofs.problems.queens.Given as goal

abbrev pub invariant-loop-row : goal.invariant-loop-row
invariant-loop-row g l = IsKnown (g.S.Space.sets l.space) l.all

abbrev pub invariant-loop-square : goal.invariant-loop-square
invariant-loop-square g l = IsKnown (g.S.Space.sets l.space) l.all
