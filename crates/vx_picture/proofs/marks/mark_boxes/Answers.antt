use Rattle.std.proofs.Common.{map, subst}
use Rattle.std.proofs.lemmas.List.{take_all}
use Rattle.vx_picture.specs.Marks.{AreMarks}
use Rattle.vx_picture.specs.declared.subject.Subject.{Subject}
use Rattle.vx_picture.proofs.Reaching.{AreMarks-more}
use Rattle.vx_picture.proofs.marks.mark_boxes.Goals as goal

pub loop-subject-preserved : goal.loop-subject-preserved
loop-subject-preserved c = AreMarks-more (λ (b : Subject). b.node) c.args.boxes.now c.loop-subject.subject-index c.subject-item.result _ c.loop-subject-test.true c.subject-item.is (c.mark.ensures _ c.loop-subject.invariant)

pub returns : goal.returns
returns c = subst (λ bs. AreMarks c.loop-subject.marks (map (λ (b : Subject). b.node) bs)) (take_all c.loop-subject.subject-index c.args.boxes.now c.loop-subject-test.false) c.loop-subject.invariant
