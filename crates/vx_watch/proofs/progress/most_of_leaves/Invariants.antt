use Rattle.std.proofs.Common.{◌≡◌, map, take}
use Rattle.vx_watch.specs.Progress.{max_from}
use Rattle.vx_watch.proofs.progress.most_of_leaves.Given as goal

abbrev pub invariant-loop-leaf : goal.invariant-loop-leaf
invariant-loop-leaf g l = l.most ≡ max_from l.from (map (λ leaf. leaf.value) (take l.leaf-index l.leaves))
