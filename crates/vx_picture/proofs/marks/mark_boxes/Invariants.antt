use Rattle.std.proofs.Common.{map, take}
use Rattle.vx_picture.specs.Marks.{AreMarks}
use Rattle.vx_picture.specs.declared.subject.Subject.{Subject}
use Rattle.vx_picture.proofs.marks.mark_boxes.Given as goal

abbrev pub invariant-loop-subject : goal.invariant-loop-subject
invariant-loop-subject l = AreMarks l.marks (map (λ (b : Subject). b.node) (take l.subject-index l.boxes))
