use Rattle.std.proofs.Common.{◌≡◌, ◌++◌, take}
use Rattle.vx_join.specs.Steps.{shared_ids}
use Rattle.vx_join.proofs.lines.put_sets.Given as goal

abbrev pub invariant-loop-shared : goal.invariant-loop-shared
invariant-loop-shared g l = l.ids.items ≡ l.initial.ids.items ++ shared_ids (take l.shared-index l.fn.values)
