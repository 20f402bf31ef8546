use Rattle.std.proofs.Common.{◌≡◌, ◌+◌, ◌-◌, ◌*◌, ◌++◌}
use Rattle.vx_java.specs.Arrays.{references_to}
use Rattle.vx_plain.specs.Views.{values_of}
use Rattle.vx_plain_arrays.proofs.grids.references_to.Given as goal

abbrev pub invariant-loop-part : goal.invariant-loop-part
invariant-loop-part l = values_of l.references.items ++ references_to (l.count - l.part) l.each (l.from + l.part * l.each) ≡ references_to l.count l.each l.from
