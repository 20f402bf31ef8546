use Rattle.vx_agree.proofs.Moved.{IsGoingAlong}
use Rattle.vx_agree.proofs.moving.gone_along.Given as goal

abbrev pub invariant-loop-index : goal.invariant-loop-index
invariant-loop-index g l = IsGoingAlong (g.S.Space.sets l.fn.space) (g.S.Space.sets l.space) l.other l.fn.entry l.front l.fn.set l.index l.from l.taken
