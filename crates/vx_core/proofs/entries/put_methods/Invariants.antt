use Rattle.std.proofs.Common.{fold, take, ◌≡◌}
use Rattle.vx_core.specs.Rows.{with_method}
use Rattle.vx_core.proofs.entries.put_methods.Given as goal

abbrev pub invariant-loop-method : goal.invariant-loop-method
invariant-loop-method l = l.pool.items ≡ fold with_method l.fn.pool.items (take l.method-index l.methods)
