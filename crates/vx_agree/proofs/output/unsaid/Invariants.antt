use Rattle.vx_agree.proofs.Outputs.{IsLeaving}
use Rattle.vx_agree.proofs.output.unsaid.Given as goal

abbrev pub invariant-loop-index : goal.invariant-loop-index
invariant-loop-index g l = IsLeaving (g.S.Space.sets l.fn.space) (g.S.Space.sets l.space) l.other l.piece l.byte l.fn.condition l.index l.from l.rest
