use Rattle.std.proofs.Common.{take, ◌≡◌}
use Rattle.std.specs.List.{flat_map}
use Rattle.vx_core.specs.Rows.{instruction_bytes}
use Rattle.vx_core.proofs.body.bytes_of.Given as goal

abbrev pub invariant-loop-instruction : goal.invariant-loop-instruction
invariant-loop-instruction l = l.bytes.items ≡ flat_map (instruction_bytes l.start) (take l.instruction-index l.instructions)
