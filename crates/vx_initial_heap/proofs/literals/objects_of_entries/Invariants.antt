use Rattle.std.proofs.Common.{◌≡◌, map, take}
use Rattle.vx_initial_heap.specs.Literals.{IsObject, object_among}
use Rattle.vx_initial_heap.specs.Remembered.{IsRight}
use Rattle.vx_initial_heap.proofs.literals.objects_of_entries.Given as goal

abbrev pub invariant-loop-entry : goal.invariant-loop-entry
invariant-loop-entry l = (l.objects.items ≡ map (object_among l.listed l.pool) (take l.entry-index l.entry-items)) × IsRight (IsObject l.listed l.pool) l.known
