use Rattle.std.proofs.Common.{◌≡◌, ◌+◌, map}
use Rattle.std.specs.List.{range_with_len}
use Rattle.vx_linker.specs.Cells.{instances_before}
use Rattle.vx_linker.proofs.counting.running_counts.Given as goal

abbrev pub invariant-loop-place : goal.invariant-loop-place
invariant-loop-place l =
    (l.counts.items ≡ map (instances_before l.program) (range_with_len 0 (l.place + 1))) × (l.count ≡ instances_before l.program l.place)
