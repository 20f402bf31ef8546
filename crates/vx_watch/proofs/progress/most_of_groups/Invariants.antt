use Rattle.std.proofs.Common.{◌≡◌, take}
use Rattle.vx_watch.specs.Progress.{most_from}
use Rattle.vx_watch.proofs.progress.most_of_groups.Given as goal

abbrev pub invariant-loop-group : goal.invariant-loop-group
invariant-loop-group g l = l.most ≡ most_from 0 (take l.group-index l.groups)
