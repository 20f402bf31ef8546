use Rattle.std.proofs.Common.{◌∙◌, ap, ◌++◌, ◌+◌}
use Rattle.vx_picture.specs.Subjects.{end_subject}
use Rattle.vx_picture.proofs.Numbered.{numbered-more}
use Rattle.vx_picture.proofs.subject.push_ends.Goals as goal

pub loop-place-preserved : goal.loop-place-preserved
loop-place-preserved c = c.in_ok-push_end.ensures ∙ ap (λ x. c.loop-place.found.items ++ end_subject c.args.returns (c.loop-place.place + 1) x) c.index-ends-place.is ∙ numbered-more (end_subject c.args.returns) _ _ _ _ _ _ c.loop-place-test.true c.loop-place.invariant
