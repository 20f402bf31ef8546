use Rattle.std.proofs.Common.{length, subst, sym, ◌+◌, ◌-◌, ◌≡◌, ◌∙◌}
use Rattle.std.proofs.lemmas.Result.{IfOk-weaker}
use Rattle.std.specs.Prelude.{IfOk, OnOk, option_map}
use Rattle.vx_java.specs.Machine.{next_object, with_objects}
use Rattle.vx_java.specs.Throwing.{exception_objects}
use Rattle.vx_plain.specs.Views.{state_of}
use Rattle.vx_plain_throw.proofs.Laws.{last_of_one, last_of_two}
use Rattle.vx_plain_throw.proofs.making.exception.Goals as goal

pub returns-in-Some : goal.returns-in-Some
returns-in-Some c =
    let p = c.args.program.now in
    let s = state_of c.args.state.now in
    record {
      place = subst (λ message. IfOk c.with_message.result (λ place. place ≡ next_object s + length (exception_objects p s c.args.class.0 (option_map (λ units. units.items) message)) - 1)) (sym c.in-Some.is)
          (IfOk-weaker c.with_message.result _ _ (λ place h. h ∙ last_of_two (next_object s)) c.with_message.ensures.place);
      added = subst (λ message. OnOk c.with_message.result (state_of c.with_message.new.state ≡ with_objects s (exception_objects p s c.args.class.0 (option_map (λ units. units.items) message)))) (sym c.in-Some.is) c.with_message.ensures.added;
    }

pub returns-in-None : goal.returns-in-None
returns-in-None c =
    let p = c.args.program.now in
    let s = state_of c.args.state.now in
    record {
      place = subst (λ message. IfOk c.without_message.result (λ place. place ≡ next_object s + length (exception_objects p s c.args.class.0 (option_map (λ units. units.items) message)) - 1)) (sym c.in-None.is)
          (IfOk-weaker c.without_message.result _ _ (λ place h. h ∙ last_of_one (next_object s)) c.without_message.ensures.place);
      added = subst (λ message. OnOk c.without_message.result (state_of c.without_message.new.state ≡ with_objects s (exception_objects p s c.args.class.0 (option_map (λ units. units.items) message)))) (sym c.in-None.is) c.without_message.ensures.added;
    }
