use Rattle.std.proofs.Common.{◌≡◌, map, take}
use Rattle.vx_picture.specs.Pictures.{greatest}
use Rattle.vx_picture.proofs.drawing.greatest_piece.Given as goal

abbrev pub invariant-loop-piece : goal.invariant-loop-piece
invariant-loop-piece l = l.last ≡ greatest l.number (map (λ piece. piece.node) (take l.piece-index l.pieces))
