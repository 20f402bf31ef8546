use Rattle.std.proofs.Common.{◌≡◌, take}
use Rattle.vx_plain.specs.Views.{values_of}
use Rattle.vx_plain_tables.specs.Cells.{values_in}
use Rattle.vx_plain_tables.proofs.cells.cells_of.Given as goal

abbrev pub invariant-loop-slot : goal.invariant-loop-slot
invariant-loop-slot l = values_of l.cells.items ≡ values_in (take l.slot-index l.slots)
