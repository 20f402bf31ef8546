use Rattle.std.proofs.Common.{fold, take, ◌≡◌}
use Rattle.vx_core.specs.Rows.{with_reference}
use Rattle.vx_core.proofs.entries.put_references.Given as goal

abbrev pub invariant-loop-reference : goal.invariant-loop-reference
invariant-loop-reference l = l.pool.items ≡ fold with_reference l.fn.pool.items (take l.reference-index l.references)
