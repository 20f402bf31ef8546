use Rattle.std.proofs.Common.{◌≡◌, ◌++◌, take}
use Rattle.vx_picture.specs.Subjects.{numbered, end_subject}
use Rattle.vx_picture.proofs.subject.push_ends.Given as goal

abbrev pub invariant-loop-place : goal.invariant-loop-place
invariant-loop-place l = l.found.items ≡ l.initial.found.items ++ numbered (end_subject l.returns) 1 (take l.place l.ends)
