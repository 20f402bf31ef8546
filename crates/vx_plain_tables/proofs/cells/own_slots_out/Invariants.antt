use Rattle.std.proofs.Common.{◌≡◌, ◌++◌, drop}
use Rattle.vx_java.specs.FirstObjects.{own_cells}
use Rattle.vx_link.specs.Parts.{class_at}
use Rattle.vx_plain_tables.proofs.CellLaws.{begun}
use Rattle.vx_plain_tables.specs.Cells.{values_in}
use Rattle.vx_plain_tables.proofs.cells.own_slots_out.Given as goal

abbrev pub invariant-loop-field : goal.invariant-loop-field
invariant-loop-field l = values_in l.initial.slots.items ++ own_cells l.fn.program l.fn.class.0 ≡ values_in l.slots.items ++ begun l.fn.program (drop l.field-index (class_at l.fn.program l.fn.class.0).fields)
