use Rattle.std.proofs.Common.{◌≡◌, ◌++◌, take}
use Rattle.vx_picture.specs.Subjects.{numbered, piece_subject}
use Rattle.vx_picture.proofs.subject.push_pieces.Given as goal

abbrev pub invariant-loop-place : goal.invariant-loop-place
invariant-loop-place l = l.found.items ≡ l.initial.found.items ++ numbered piece_subject 1 (take l.place l.pieces)
