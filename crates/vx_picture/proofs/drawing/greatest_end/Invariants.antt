use Rattle.std.proofs.Common.{◌≡◌, map, take}
use Rattle.vx_picture.specs.Pictures.{greatest}
use Rattle.vx_picture.proofs.drawing.greatest_end.Given as goal

abbrev pub invariant-loop-line : goal.invariant-loop-line
invariant-loop-line l = l.last ≡ greatest l.number (map (λ line. line.node) (take l.line-index l.ends))
