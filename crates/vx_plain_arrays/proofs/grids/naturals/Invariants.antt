use Rattle.std.proofs.Common.{◌≡◌, map, take}
use Rattle.vx_plain_arrays.proofs.grids.naturals.Given as goal
use Rattle.vx_value.specs.Arithmetic.{natural}

abbrev pub invariant-loop-length : goal.invariant-loop-length
invariant-loop-length l = l.numbers.items ≡ map natural (take l.length-index l.lengths)
