use Rattle.std.proofs.Common.{◌≡◌, take}
use Rattle.vx_cond.proofs.leaves.copy_leaves.Given as goal

abbrev pub invariant-loop-leaf : goal.invariant-loop-leaf
invariant-loop-leaf g l = l.made.items ≡ take l.leaf-index l.leaves
