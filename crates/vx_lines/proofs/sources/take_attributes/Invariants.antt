use Rattle.std.proofs.Common.{◌≡◌, ◌-◌}
use Rattle.vx_pool.specs.Reading.{steps}
use Rattle.vx_lines.specs.Sources.{file_step}
use Rattle.vx_lines.proofs.sources.take_attributes.Given as goal

abbrev pub invariant-loop : goal.invariant-loop
invariant-loop l = steps (file_step l.pool) l.found (l.count - l.counter) l.cursor ≡ steps (file_step l.pool) l.fn.found l.count l.fn.cursor
