use Rattle.std.proofs.Common.{◌∙◌, ap, ◌++◌, ◌+◌}
use Rattle.vx_picture.specs.Subjects.{piece_subject}
use Rattle.vx_picture.proofs.Numbered.{numbered-more}
use Rattle.vx_picture.proofs.subject.push_pieces.Goals as goal

pub loop-place-preserved : goal.loop-place-preserved
loop-place-preserved c = c.in_ok-push_piece.ensures ∙ ap (λ x. c.loop-place.found.items ++ piece_subject (c.loop-place.place + 1) x) c.index-pieces-place.is ∙ numbered-more piece_subject _ _ _ _ _ _ c.loop-place-test.true c.loop-place.invariant
