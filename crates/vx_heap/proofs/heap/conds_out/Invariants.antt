use Rattle.std.proofs.Common.{◌≡◌, ◌++◌, take}
use Rattle.std.specs.List.{flat_map}
use Rattle.vx_cond.specs.Cond.{cond_ids}
use Rattle.vx_heap.proofs.heap.conds_out.Given as goal

abbrev pub invariant-loop-cond : goal.invariant-loop-cond
invariant-loop-cond g l = l.ids.items ≡ l.initial.ids.items ++ flat_map cond_ids (take l.cond-index l.fn.conds)
