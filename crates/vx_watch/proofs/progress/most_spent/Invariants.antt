use Rattle.std.proofs.Common.{◌≡◌, map, take}
use Rattle.vx_watch.specs.Progress.{max_from}
use Rattle.vx_watch.proofs.progress.most_spent.Given as goal

abbrev pub invariant-loop-shared : goal.invariant-loop-shared
invariant-loop-shared g l = l.most ≡ max_from l.from (map (λ shared. shared.value) (take l.shared-index l.spent))
