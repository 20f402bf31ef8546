use Rattle.std.proofs.Common.{◌≡◌, ◌-◌}
use Rattle.vx_pool.specs.Reading.{steps}
use Rattle.vx_lines.specs.Tables.{field_step}
use Rattle.vx_lines.proofs.reading.pass_fields.Given as goal

abbrev pub invariant-loop : goal.invariant-loop
invariant-loop l = steps field_step tt (l.count - l.counter) l.cursor ≡ steps field_step tt l.count l.fn.cursor
