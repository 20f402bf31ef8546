use Rattle.std.proofs.Common.{◌≡◌, take}
use Rattle.vx_units.proofs.making.of_bytes.Given as goal

abbrev pub invariant-loop-byte : goal.invariant-loop-byte
invariant-loop-byte l = l.made.items ≡ take l.byte-index l.bytes
