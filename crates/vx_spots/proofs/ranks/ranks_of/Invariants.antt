use Rattle.std.proofs.Common.{None, length, ◌++◌, ◌+◌, ◌≡◌, ◌≤◌}
use Rattle.vx_spots.specs.Ranks.{ranks_from}
use Rattle.vx_spots.proofs.ranks.ranks_of.Given as goal

-- the ranks that are made, before those of the entries that are left
abbrev pub invariant-loop-rest : goal.invariant-loop-rest
invariant-loop-rest l =
    (l.ranks.items ++ ranks_from l.last l.start l.rest ≡ ranks_from None 0 l.order) × (l.start + length l.rest ≤ length l.order)

abbrev pub decreases-loop-rest : goal.decreases-loop-rest
decreases-loop-rest l = length l.rest
