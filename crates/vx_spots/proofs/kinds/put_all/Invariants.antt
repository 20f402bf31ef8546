use Rattle.std.proofs.Common.{fold, take, ◌≡◌}
use Rattle.vx_spots.specs.Entries.{with_kinds}
use Rattle.vx_spots.proofs.kinds.put_all.Given as goal

abbrev pub invariant-loop-spot : goal.invariant-loop-spot
invariant-loop-spot l = l.kinds ≡ fold with_kinds l.initial.kinds (take l.spot-index l.spots)
