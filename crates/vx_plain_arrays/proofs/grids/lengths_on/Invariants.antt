use Rattle.vx_plain.specs.Views.{state_of}
use Rattle.vx_plain_arrays.proofs.GridLaws.{AreTaken}
use Rattle.vx_plain_arrays.proofs.grids.lengths_on.Given as goal

abbrev pub invariant-loop-dimension : goal.invariant-loop-dimension
invariant-loop-dimension l = AreTaken l.dimensions l.dimension l.lengths.items (state_of l.state).top.operands
