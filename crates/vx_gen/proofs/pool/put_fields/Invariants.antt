use Rattle.std.proofs.Common.{take, ◌++◌, ◌≡◌}
use Rattle.vx_gen.specs.Parts.{field_parts}
use Rattle.vx_gen.proofs.pool.put_fields.Given as goal

abbrev pub invariant-loop-name : goal.invariant-loop-name
invariant-loop-name l = l.pool.items ≡ l.fn.pool.items ++ field_parts (take l.name-index l.names)
