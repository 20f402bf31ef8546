use Rattle.std.proofs.Common.{◌≡◌, ◌++◌, take}
use Rattle.vx_standing.specs.State.{shared_ids}
use Rattle.vx_standing.proofs.state.sets_out.Given as goal

abbrev pub invariant-loop-shared : goal.invariant-loop-shared
invariant-loop-shared g l = l.ids.items ≡ l.initial.ids.items ++ shared_ids (take l.shared-index l.fn.list)
