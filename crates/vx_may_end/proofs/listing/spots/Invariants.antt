use Rattle.std.proofs.Common.{flat_map, ◌++◌, ◌≡◌}
use Rattle.std.specs.List.{range_with_len}
use Rattle.vx_may_end.specs.Listed.{first_spots, spots_of}
use Rattle.vx_may_end.proofs.listing.spots.Given as goal

abbrev pub invariant-loop-number : goal.invariant-loop-number
invariant-loop-number l = l.out.items ≡ first_spots l.program ++ flat_map (spots_of l.program) (range_with_len 0 l.number)
