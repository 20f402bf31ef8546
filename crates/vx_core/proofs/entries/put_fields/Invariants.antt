use Rattle.std.proofs.Common.{fold, take, ◌≡◌}
use Rattle.vx_core.specs.Rows.{with_field}
use Rattle.vx_core.proofs.entries.put_fields.Given as goal

abbrev pub invariant-loop-field : goal.invariant-loop-field
invariant-loop-field l = l.pool.items ≡ fold with_field l.fn.pool.items (take l.field-index l.fields)
