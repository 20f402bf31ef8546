use Rattle.std.proofs.Common.{[], fold, take, ◌≡◌}
use Rattle.vx_core.specs.Rows.{with_interface}
use Rattle.vx_core.proofs.file.interface_indices.Given as goal

abbrev pub invariant-loop-name : goal.invariant-loop-name
invariant-loop-name l = l.indices.items ≡ fold (λ before _. with_interface before) [] (take l._name-index l.names)
