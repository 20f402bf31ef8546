use Rattle.std.proofs.Common.{◌≡◌, ◌++◌, flat_map, take}
use Rattle.vx_compare.specs.Lines.{marked_on}
use Rattle.vx_compare.proofs.lines.put_marked.Given as goal

abbrev pub invariant-loop-byte : goal.invariant-loop-byte
invariant-loop-byte l = l.bytes.items ≡ l.initial.bytes.items ++ flat_map (marked_on l.fn.stream) (take l.byte-index l.fn.text)
