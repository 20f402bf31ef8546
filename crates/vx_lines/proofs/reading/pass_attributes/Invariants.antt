use Rattle.std.proofs.Common.{◌≡◌, ◌-◌}
use Rattle.vx_pool.specs.Reading.{steps}
use Rattle.vx_lines.specs.Tables.{pass_step}
use Rattle.vx_lines.proofs.reading.pass_attributes.Given as goal

abbrev pub invariant-loop : goal.invariant-loop
invariant-loop l = steps pass_step tt (l.count - l.counter) l.cursor ≡ steps pass_step tt l.count l.fn.cursor
