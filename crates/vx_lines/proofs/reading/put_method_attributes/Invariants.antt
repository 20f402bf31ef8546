use Rattle.std.proofs.Common.{◌≡◌, ◌-◌}
use Rattle.vx_pool.specs.Reading.{steps}
use Rattle.vx_lines.specs.Tables.{method_step}
use Rattle.vx_lines.proofs.reading.put_method_attributes.Given as goal

abbrev pub invariant-loop : goal.invariant-loop
invariant-loop l = steps (method_step l.pool) l.rows.items (l.count - l.counter) l.cursor ≡ steps (method_step l.pool) l.fn.rows.items l.count l.fn.cursor
