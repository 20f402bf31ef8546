use Rattle.std.specs.Ordering.{nat_cmp}
use Rattle.vx_placing.proofs.AddingAll.{IsAddingAll}
use Rattle.vx_findings.specs.Shared.{leaves_of}
use Rattle.vx_placing.proofs.placing.add_spent.Given as goal

abbrev pub invariant-loop-leaf : goal.invariant-loop-leaf
invariant-loop-leaf g l = IsAddingAll nat_cmp (g.S.Space.sets l.fn.space) (g.S.Space.sets l.space) (leaves_of l.fn.spent.items) l.leaves l.leaf-index (leaves_of l.spent.items)
