use Rattle.std.proofs.Common.{take}
use Rattle.vx_agree.proofs.Taken.{IsTaking}
use Rattle.vx_agree.proofs.taking.take_from_piece.Given as goal

abbrev pub invariant-loop-entry : goal.invariant-loop-entry
invariant-loop-entry g l = IsTaking (g.S.Space.sets l.fn.space) (g.S.Space.sets l.space) l.index l.piece l.set l.byte l.front l.entries (take l.entry-index l.entries) l.fn.new.items l.new.items l.waiting.items
