use Rattle.std.proofs.Common.{◌≡◌, ◌++◌, length}
use Rattle.vx_java.specs.FirstObjects.{units_of}
use Rattle.vx_initial_heap.proofs.units.units_of.Given as goal

abbrev pub invariant-loop-unit : goal.invariant-loop-unit
invariant-loop-unit l = l.units.items ++ units_of l.rest ≡ units_of l.text

abbrev pub decreases-loop-unit : goal.decreases-loop-unit
decreases-loop-unit l = length l.rest
