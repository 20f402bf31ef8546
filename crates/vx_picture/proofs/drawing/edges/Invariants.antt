use Rattle.std.proofs.Common.{◌≡◌, take}
use Rattle.vx_picture.specs.Marks.{has_mark}
use Rattle.vx_picture.specs.Pictures.{edges_of, kept}
use Rattle.vx_picture.specs.Subjects.{numbered}
use Rattle.vx_picture.proofs.drawing.edges.Given as goal

abbrev pub invariant-loop-place : goal.invariant-loop-place
invariant-loop-place l = l.drawn.items ≡ numbered (kept (has_mark l.marks) edges_of) 2 (take l.place l.nodes)
