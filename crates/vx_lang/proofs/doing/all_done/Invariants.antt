use Rattle.vx_natives.proofs.Leaves.{IsDoing}
use Rattle.vx_natives.specs.Doing.{IsSaidBy}
use Rattle.vx_natives.specs.Readings.{said}
use Rattle.vx_lang.proofs.doing.all_done.Given as goal

abbrev pub invariant-loop-leaf : goal.invariant-loop-leaf
invariant-loop-leaf g l = IsDoing (IsSaidBy l.program (g.S.Space.sets l.fn.space) l.fn.heap (said (g.S.Space.sets l.fn.space) l.fn.heap l.behaviour)) (g.S.Space.sets l.fn.space) (g.S.Space.sets l.space) l.fn.heap l.heap l.calls l.leaf-index l.answers
