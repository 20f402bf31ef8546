use Rattle.std.proofs.Common.{◌≡◌, ◌++◌, take}
use Rattle.std.specs.List.{flat_map}
use Rattle.vx_class.specs.Spelling.{catch_bytes}
use Rattle.vx_writer.proofs.code.put_catches.Given as goal

abbrev pub invariant-loop-row : goal.invariant-loop-row
invariant-loop-row l = l.out.items ≡ l.fn.out.items ++ flat_map catch_bytes (take l.row-index l.rows)
