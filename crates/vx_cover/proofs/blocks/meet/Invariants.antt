use Rattle.vx_cover.proofs.Blocked.{IsMeeting}
use Rattle.vx_cover.proofs.blocks.meet.Given as goal

abbrev pub invariant-loop-place : goal.invariant-loop-place
invariant-loop-place g l = IsMeeting (g.S.Space.sets l.space) l.c l.fn.blocks l.blocks l.place l.numbers.items
