use Rattle.std.proofs.Common.{take}
use Rattle.vx_join.proofs.Texts.{IsTelling}
use Rattle.vx_join.proofs.collecting.put_pieces.Given as goal

abbrev pub invariant-loop-piece : goal.invariant-loop-piece
invariant-loop-piece g l = IsTelling (g.S.Space.sets l.fn.space) (g.S.Space.sets l.space) l.fn.scope l.report.nodes l.fn.found.items l.found.items (take l.piece-index l.report.pieces)
