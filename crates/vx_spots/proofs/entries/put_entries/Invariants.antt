use Rattle.std.proofs.Common.{length, ◌++◌, ◌+◌, ◌≡◌, ◌≤◌}
use Rattle.vx_spots.specs.Entries.{entries_from}
use Rattle.vx_spots.proofs.entries.put_entries.Given as goal

-- what is put, before what is still lacking
abbrev pub invariant-loop-rest : goal.invariant-loop-rest
invariant-loop-rest l =
    (l.out.items ++ entries_from l.kinds l.spot l.number l.rest ≡ l.initial.out.items ++ entries_from l.kinds l.spot 0 l.lacks)
    × (l.number + length l.rest ≤ length l.lacks)

abbrev pub decreases-loop-rest : goal.decreases-loop-rest
decreases-loop-rest l = length l.rest
