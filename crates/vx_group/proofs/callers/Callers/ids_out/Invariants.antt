use Rattle.std.proofs.Common.{◌≡◌, ◌++◌, take}
use Rattle.vx_group.specs.Callers.{tree_ids}
use Rattle.vx_group.proofs.callers.Callers.ids_out.Given as goal

abbrev pub invariant-loop-number : goal.invariant-loop-number
invariant-loop-number g l = l.ids.items ≡ l.fn.ids.items ++ tree_ids (take l.number l.fn.self)
