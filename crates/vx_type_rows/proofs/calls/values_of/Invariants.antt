use Rattle.std.proofs.Common.{◌≡◌, map, take}
use Rattle.vx_types.specs.Rows.{wanted_of}
use Rattle.vx_type_rows.proofs.calls.values_of.Given as goal

abbrev pub invariant-loop-item : goal.invariant-loop-item
invariant-loop-item l = l.wants.items ≡ map (wanted_of l.program l.descriptor) (take l.item-index l.items)
