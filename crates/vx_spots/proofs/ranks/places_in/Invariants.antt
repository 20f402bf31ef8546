use Rattle.std.proofs.Common.{None, length, ◌+◌, ◌≡◌, ◌≤◌}
use Rattle.vx_spots.specs.Ranks.{places_in}
use Rattle.vx_spots.proofs.ranks.places_in.Given as goal

-- the spots that are counted, with those that are left
abbrev pub invariant-loop-rest : goal.invariant-loop-rest
invariant-loop-rest l =
    (l.places + places_in l.kind l.last l.rest ≡ places_in l.kind None l.entries) × (l.places + length l.rest ≤ length l.entries)

abbrev pub decreases-loop-rest : goal.decreases-loop-rest
decreases-loop-rest l = length l.rest
