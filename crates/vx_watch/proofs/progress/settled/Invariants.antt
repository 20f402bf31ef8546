use Rattle.std.proofs.Common.{◌≡◌, ◌≤◌, ◌*◌, ◌^◌, take}
use Rattle.std.specs.BTreeMap.{get}
use Rattle.vx_count.specs.Memo.{AreNumbers}
use Rattle.vx_watch.specs.Progress.{settled}
use Rattle.vx_watch.proofs.progress.settled.Given as goal

abbrev pub invariant-loop-end : goal.invariant-loop-end
invariant-loop-end g l =
    (l.sum ≡ settled (g.S.Space.sets l.space) (take l.end-index l.ends))
    × (l.sum ≤ l.end-index * 2 ^ 64)
    × AreNumbers (g.S.Space.sets l.space) (get g.S.Id.Ord.cmp l.numbers)
