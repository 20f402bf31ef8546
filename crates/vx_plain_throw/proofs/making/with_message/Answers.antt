use Rattle.std.proofs.Common.{[], ap, ◌∙◌, ◌∷◌}
use Rattle.vx_java.specs.Machine.{Null, Ref, with_objects}
use Rattle.vx_java.specs.Throwing.{throwable}
use Rattle.vx_plain.specs.Views.{state_of}
use Rattle.vx_plain_throw.proofs.Laws.{next_behind, two_added}
use Rattle.vx_plain_throw.proofs.making.with_message.Goals as goal

pub returns : goal.returns
returns c =
    let p = c.args.program.now in
    let s = state_of c.args.state.now in
    let text = c.in_ok-text.ensures in
    let made = c.in_ok-made.ensures ∙ ap (λ place. throwable p c.args.class.0 (Ref place) Null) text.place in
    record {
      place = c.in_ok-add.ensures.place ∙ next_behind s _ _ text.added;
      added = two_added s (state_of c.add.new.self) _ _ _ (text.added ∙ ap (λ object. with_objects s (object ∷ [])) c.string.ensures) (c.in_ok-add.ensures.added ∙ ap (λ object. with_objects (state_of c.add.new.self) (object ∷ [])) made);
    }
