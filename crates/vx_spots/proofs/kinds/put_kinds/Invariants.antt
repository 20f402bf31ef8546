use Rattle.std.proofs.Common.{fold, take, ◌≡◌}
use Rattle.vx_spots.specs.Entries.{with_kind}
use Rattle.vx_spots.proofs.kinds.put_kinds.Given as goal

abbrev pub invariant-loop-lack : goal.invariant-loop-lack
invariant-loop-lack l = l.kinds ≡ fold with_kind l.initial.kinds (take l.lack-index l.spot.lacks)
