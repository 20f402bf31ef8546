use Rattle.std.proofs.Common.{◌≡◌}
use Rattle.std.specs.Prelude.{replicate}
use Rattle.vx_types.specs.Plain.{int}
use Rattle.vx_type_rows.proofs.arrays.lengths.Given as goal

abbrev pub invariant-loop-dimension : goal.invariant-loop-dimension
invariant-loop-dimension l = l.wants.items ≡ replicate l._dimension int
