use Rattle.std.proofs.Common.{◌≡◌, map, take}
use Rattle.vx_class.specs.Numbers.{entry_number}
use Rattle.vx_class.proofs.numbers.entry_numbers.Given as goal

abbrev pub invariant-loop-entry : goal.invariant-loop-entry
invariant-loop-entry l = l.numbers.items ≡ map (entry_number l.names) (take l.entry-index l.entries)
