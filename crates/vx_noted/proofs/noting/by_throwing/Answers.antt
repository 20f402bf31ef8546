use Rattle.std.proofs.Common.{List, sym, subst, ◌≡◌}
use Rattle.std.specs.Prelude.{IfOk, option_map}
use Rattle.vx_noted.proofs.Attempted.{raised_with, thrown_with}
use Rattle.vx_noted.specs.Noted.{by_throwing}
use Rattle.vx_plain.specs.Views.{state_of}
use Rattle.vx_plain_here.specs.Rows.{outcome_over}
use Rattle.vx_plain_here.specs.declared.outcome.Outcome.{Outcome}
use Rattle.vx_noted.proofs.noting.by_throwing.Goals as goal

pub returns-in-Raise : goal.returns-in-Raise
returns-in-Raise c =
    let p = c.args.program.now in
    let s = state_of c.args.state.now in
    let r = c.args.object in
    subst (λ (o : Outcome). IfOk c.in_raised.result (λ found. option_map (λ frames. frames.items) found ≡ by_throwing p (outcome_over s o) r)) (sym c.in-Raise.is)
    (raised_with c.in_raised.result p s c.in-Raise.class.0 c.texts_of.result r (option_map (λ units. units.items) c.in-Raise.message) c.texts_of.ensures c.in_raised.ensures)

pub returns-in-Throw : goal.returns-in-Throw
returns-in-Throw c =
    let p = c.args.program.now in
    let s = state_of c.args.state.now in
    let r = c.args.object in
    subst (λ (o : Outcome). IfOk c.in_wrapper.result (λ found. option_map (λ frames. frames.items) found ≡ by_throwing p (outcome_over s o) r)) (sym c.in-Throw.is)
    (thrown_with c.in_wrapper.result p s c.next_object-wrapper.result c.class_of.result.0 r _ c.next_object-wrapper.ensures.place c.class_of.ensures c.in_wrapper.ensures)
