use Rattle.vx_agree.proofs.Taken.{IsGoing}
use Rattle.vx_agree.proofs.taking.take_text.Given as goal

abbrev pub invariant-loop-index : goal.invariant-loop-index
invariant-loop-index g l = IsGoing (g.S.Space.sets l.fn.space) (g.S.Space.sets l.space) l.other l.piece l.byte l.fn.condition l.front l.fn.new.items l.index l.from l.new.items l.waiting.items
