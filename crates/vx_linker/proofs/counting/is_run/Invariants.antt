use Rattle.std.proofs.Common.{◌≡◌, drop, map}
use Rattle.vx_linker.specs.Cells.{are_run, is_run}
use Rattle.vx_linker.proofs.counting.is_run.Given as goal

abbrev pub invariant-loop-field : goal.invariant-loop-field
invariant-loop-field l = is_run l.fields ≡ are_run l.next (map (λ f. f.0) (drop l.field-index l.fields))
