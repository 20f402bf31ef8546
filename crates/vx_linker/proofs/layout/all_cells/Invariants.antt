use Rattle.std.proofs.Common.{◌≡◌, map}
use Rattle.std.specs.List.{range_with_len}
use Rattle.vx_link.specs.Linked.{layout}
use Rattle.vx_linker.proofs.layout.all_cells.Given as goal

abbrev pub invariant-loop-place : goal.invariant-loop-place
invariant-loop-place l = l.cells.items ≡ map (layout l.program) (range_with_len 0 l.place)
