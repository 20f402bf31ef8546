use Rattle.vx_natives.proofs.Leaves.{IsPutting}
use Rattle.vx_natives.specs.Chars.{IsAppendedOver}
use Rattle.vx_natives.proofs.chars.all_appended.Given as goal

abbrev pub invariant-loop-leaf : goal.invariant-loop-leaf
invariant-loop-leaf g l = IsPutting (IsAppendedOver l.fn.heap.texts) (g.S.Space.sets l.fn.space) (g.S.Space.sets l.space) l.fn.heap l.heap l.pairs l.leaf-index l.answers
