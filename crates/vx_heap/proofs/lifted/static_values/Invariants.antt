use Rattle.vx_heap.proofs.Throughout.{IsLiftingStatics}
use Rattle.vx_heap.proofs.lifted.static_values.Given as goal

abbrev pub invariant-loop-first : goal.invariant-loop-first
invariant-loop-first g l = IsLiftingStatics (g.S.Space.sets l.fn.space) (g.S.Space.sets l.space) l.scope l.statics l.first-index l.conds.items
