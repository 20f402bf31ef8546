use Rattle.vx_agree.proofs.Outputs.{IsFollowing}
use Rattle.vx_agree.proofs.output.places_behind.Given as goal

abbrev pub invariant-loop-piece : goal.invariant-loop-piece
invariant-loop-piece g l = IsFollowing (g.S.Space.sets l.fn.space) (g.S.Space.sets l.space) l.one l.other l.fn.start l.piece-index l.reached.items
