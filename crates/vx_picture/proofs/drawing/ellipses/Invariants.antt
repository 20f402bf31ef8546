use Rattle.std.proofs.Common.{◌≡◌, take}
use Rattle.vx_picture.specs.Marks.{has_mark}
use Rattle.vx_picture.specs.Pictures.{ellipse, kept}
use Rattle.vx_picture.specs.Subjects.{numbered}
use Rattle.vx_picture.proofs.drawing.ellipses.Given as goal

abbrev pub invariant-loop-place : goal.invariant-loop-place
invariant-loop-place l = l.drawn.items ≡ numbered (kept (has_mark l.marks) ellipse) 2 (take l.place l.nodes)
