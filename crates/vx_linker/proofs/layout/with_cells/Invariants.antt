use Rattle.std.proofs.Common.{◌≡◌, ◌++◌, length}
use Rattle.std.specs.Vec.Iter.{into_iter_items, into_iter_len}
use Rattle.vx_linker.specs.Cells.{with_cells}
use Rattle.vx_linker.proofs.layout.with_cells.Given as goal

abbrev pub invariant-loop-field : goal.invariant-loop-field
invariant-loop-field l =
    (into_iter_len l.field-iterator ≡ length (into_iter_items l.field-iterator))
    × (l.laid_out.items ++ with_cells (into_iter_items l.field-iterator) l.rest ≡ with_cells l.fn.fields.items l.fn.cells)
