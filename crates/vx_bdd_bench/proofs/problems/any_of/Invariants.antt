use Rattle.vx_space.specs.Sets.{IsKnown, Extends}
use Rattle.vx_bdd_bench.proofs.problems.any_of.Given as goal

abbrev pub invariant-loop-i : goal.invariant-loop-i
invariant-loop-i g l = record {
  known : IsKnown (g.S.Space.sets l.space) l.some;
  extends : Extends (g.S.Space.sets l.fn.space) (g.S.Space.sets l.space);
}
