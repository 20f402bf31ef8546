use Rattle.std.proofs.Common.{◌≡◌, ◌-◌}
use Rattle.vx_pool.specs.Reading.{steps}
use Rattle.vx_lines.specs.Tables.{table_step}
use Rattle.vx_lines.proofs.reading.put_attributes.Given as goal

abbrev pub invariant-loop : goal.invariant-loop
invariant-loop l = steps (table_step l.pool) l.rows.items (l.count - l.counter) l.cursor ≡ steps (table_step l.pool) l.fn.rows.items l.count l.fn.cursor
