use Rattle.std.proofs.Common.{fold, take, ◌≡◌}
use Rattle.vx_initial_heap.specs.Literals.{IsListed, with_entry}
use Rattle.vx_initial_heap.specs.Remembered.{IsRight}
use Rattle.vx_initial_heap.proofs.literals.Literals.add_new_entries.Given as goal

abbrev pub invariant-loop-entry : goal.invariant-loop-entry
invariant-loop-entry l = (l.self ≡ fold (with_entry l.pool) l.initial.self (take l.entry-index l.entry-items)) × IsRight (IsListed l.self l.pool) l.added
