use Rattle.std.proofs.Common.{ap, subst, ◌∙◌}
use Rattle.vx_picture.specs.Text.{picture_text}
use Rattle.vx_picture.specs.Walks.{Walks}
use Rattle.vx_people.proofs.telling.picturing.Goals as goal

pub returns : goal.returns
returns c = record {
  walks = subst (Walks c.args.report.now) c.in_ok-picture.ensures.picture c.in_ok-picture.ensures.walks;
  spelled = c.in_ok-picture_text.ensures ∙ ap (picture_text c.args.report.now.options) c.in_ok-picture.ensures.picture;
}
