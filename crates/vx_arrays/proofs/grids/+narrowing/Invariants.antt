use Rattle.std.proofs.Common.{◌+◌, ◌-◌, ◌*◌, length}
use Rattle.vx_arrays.proofs.DividedGrids.{IsDividing}
use Rattle.vx_arrays.specs.Making.{lengths_behind, slots_from}
use Rattle.vx_arrays.proofs.grids.+narrowing.Given as goal

abbrev pub decreases-answers_inside : goal.decreases-answers_inside
decreases-answers_inside g l = 2 * (l.dimensions - length l.lengths.now) + 1

abbrev pub decreases-answers_behind : goal.decreases-answers_behind
decreases-answers_behind g l = 2 * (l.dimensions - length l.lengths.now)

abbrev pub invariant-answers_inside-loop-leaf : goal.invariant-answers_inside-loop-leaf
invariant-answers_inside-loop-leaf g l = IsDividing l.program l.class.0 (λ c. lengths_behind l.lengths (slots_from (g.S.Space.sets l.fn.space) l.stack l.dimensions (length l.lengths) c)) (g.S.Space.sets l.fn.space) (g.S.Space.sets l.space) l.fn.heap l.heap l.condition l.leaves l.leaf-index l.fn.answers l.made
