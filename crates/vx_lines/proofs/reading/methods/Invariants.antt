use Rattle.std.proofs.Common.{◌≡◌, ◌-◌}
use Rattle.vx_pool.specs.Reading.{steps, items, item_step}
use Rattle.vx_lines.specs.Tables.{method_at}
use Rattle.vx_lines.proofs.reading.methods.Given as goal

abbrev pub invariant-loop : goal.invariant-loop
invariant-loop l = steps (item_step (method_at l.pool)) l.methods.items (l.count - l.counter) l.cursor ≡ items (method_at l.pool) l.count l.fn.cursor
