use Rattle.std.proofs.Common.{length, map}
use Rattle.vx_arrays.proofs.GridParts.{IsMakingParts}
use Rattle.vx_arrays.proofs.grids.+grid.Given as goal
use Rattle.vx_value.specs.Arithmetic.{natural}

abbrev pub decreases-grid : goal.decreases-grid
decreases-grid g l = length l.deeper.now

abbrev pub invariant-loop-index : goal.invariant-loop-index
invariant-loop-index g l = IsMakingParts l.program l.fn.class.0 (natural l.size) (natural l.next) (map natural l.others) (g.S.Space.sets l.fn.space) (g.S.Space.sets l.space) l.fn.heap l.heap l.condition l.array l.index
