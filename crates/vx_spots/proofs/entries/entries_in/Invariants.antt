use Rattle.std.proofs.Common.{length, ◌++◌, ◌+◌, ◌≡◌, ◌≤◌}
use Rattle.vx_spots.specs.Entries.{entries_in}
use Rattle.vx_spots.proofs.entries.entries_in.Given as goal

-- what is put, before what the spots lack that are left
abbrev pub invariant-loop-rest : goal.invariant-loop-rest
invariant-loop-rest l =
    (l.out.items ++ entries_in l.kinds l.reached l.is_wanted l.number l.rest ≡ entries_in l.kinds l.reached l.is_wanted 0 l.spots)
    × (l.number + length l.rest ≤ length l.spots)

abbrev pub decreases-loop-rest : goal.decreases-loop-rest
decreases-loop-rest l = length l.rest
