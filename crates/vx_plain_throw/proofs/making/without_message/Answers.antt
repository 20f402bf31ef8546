use Rattle.std.proofs.Common.{[], ap, ◌∙◌, ◌∷◌}
use Rattle.vx_java.specs.Machine.{with_objects}
use Rattle.vx_plain.specs.Views.{state_of}
use Rattle.vx_plain_throw.proofs.making.without_message.Goals as goal

pub returns : goal.returns
returns c = record {
  place = c.in_ok-add.ensures.place;
  added = c.in_ok-add.ensures.added ∙ ap (λ object. with_objects (state_of c.args.state.now) (object ∷ [])) c.in_ok-made.ensures;
}
