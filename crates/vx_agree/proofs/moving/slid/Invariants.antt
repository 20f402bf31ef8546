use Rattle.vx_agree.proofs.Moved.{IsSliding}
use Rattle.vx_agree.proofs.moving.slid.Given as goal

abbrev pub invariant-loop-index : goal.invariant-loop-index
invariant-loop-index g l = IsSliding (g.S.Space.sets l.fn.space) (g.S.Space.sets l.space) l.other l.condition l.piece l.byte l.index l.from
