use Rattle.std.proofs.Common.{flat_map, take, ◌++◌, ◌≡◌}
use Rattle.vx_spots.specs.Texts.{rank_text}
use Rattle.vx_spots.proofs.reasons.put_kinds.Given as goal

abbrev pub invariant-loop-rank : goal.invariant-loop-rank
invariant-loop-rank l =
    l.out.items ≡ l.initial.out.items ++ flat_map (rank_text l.told.program.now l.told.tables.now l.told.spots.now l.order) (take l.rank-index l.ranks)
