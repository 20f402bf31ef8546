use Rattle.std.proofs.Common.{take}
use Rattle.vx_heap.specs.Lifted.{AreSame}
use Rattle.vx_heap.proofs.lifted.same_values.Given as goal

abbrev pub invariant-loop-value : goal.invariant-loop-value
invariant-loop-value g l = AreSame g.T.Ord.cmp (g.S.Space.sets l.space) l.scope (take l.value-index l.values) l.conds.items
