use Rattle.std.proofs.Common.{◌-◌, drop}
use Rattle.vx_heap.specs.Defaults.{AreSlotsOf}
use Rattle.vx_heap.proofs.Beginnings.{numbers}
use Rattle.vx_java.specs.FirstObjects.{cells_of_chain}
use Rattle.vx_heap.proofs.defaults.new_slots.Given as goal

abbrev pub invariant-loop-below : goal.invariant-loop-below
invariant-loop-below l = AreSlotsOf l.fn.empty l.slots.items (cells_of_chain l.fn.program (numbers (drop (l.count - l.below) l.chain.items)))
