use Rattle.std.proofs.Common.{fold, take, ◌≡◌}
use Rattle.vx_core.specs.Rows.{with_class}
use Rattle.vx_core.proofs.entries.put_interfaces.Given as goal

abbrev pub invariant-loop-name : goal.invariant-loop-name
invariant-loop-name l = l.pool.items ≡ fold (λ pool name. with_class pool name.now) l.fn.pool.items (take l.name-index l.names)
