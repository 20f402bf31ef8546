use Rattle.std.proofs.Common.{[], ◌∙◌}
use Rattle.vx_picture.specs.Marks.{has_mark}
use Rattle.vx_picture.specs.Pictures.{ellipse, kept}
use Rattle.vx_picture.proofs.Numbered.{numbered-more}
use Rattle.vx_picture.proofs.drawing.ellipses.Goals as goal

pub loop-place-preserved : goal.loop-place-preserved
loop-place-preserved c = c.in_ok-push_ellipse.ensures ∙ numbered-more (kept (has_mark c.args.marks.now) ellipse) [] _ _ _ _ _ c.loop-place-test.true c.loop-place.invariant
