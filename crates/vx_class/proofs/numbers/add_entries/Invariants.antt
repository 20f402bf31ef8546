use Rattle.std.proofs.Common.{◌≡◌, fold, take}
use Rattle.vx_class.specs.Numbers.{with_entry}
use Rattle.vx_class.proofs.numbers.add_entries.Given as goal

abbrev pub invariant-loop-entry : goal.invariant-loop-entry
invariant-loop-entry l = l.names ≡ fold with_entry l.initial.names (take l.entry-index l.entries)
