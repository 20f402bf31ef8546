use Rattle.std.proofs.Common.{flat_map, length, ◌++◌, ◌≡◌, ◌≤◌}
use Rattle.vx_jump_targets.specs.Placed.{starts_from, starts_in}
use Rattle.vx_may_end.specs.Listed.{spots_at}
use Rattle.vx_may_end.proofs.listing.put_spots_in.Given as goal

-- what is put, before the spots of the positions that are left
abbrev pub invariant-loop-left : goal.invariant-loop-left
invariant-loop-left l =
    (l.out.items ++ flat_map (spots_at l.program l.method.0) (starts_from l.code.bytes l.left l.at) ≡ l.initial.out.items ++ flat_map (spots_at l.program l.method.0) (starts_in l.code))
    × (l.at ≤ length l.code.bytes)

abbrev pub decreases-loop-left : goal.decreases-loop-left
decreases-loop-left l = l.left
