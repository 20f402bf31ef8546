use Rattle.std.proofs.Common.{subst, sym}
use Rattle.std.specs.Prelude.{IfOk, option_map}
use Rattle.vx_noted.proofs.Attempted.{raise_leaves}
use Rattle.vx_noted.specs.Leaving.{left_by}
use Rattle.vx_noted.specs.Runs.{HasLeft}
use Rattle.vx_plain.specs.Views.{state_of}
use Rattle.vx_plain_here.specs.Rows.{outcome_over}
use Rattle.vx_plain_here.specs.declared.outcome.Outcome.{Outcome}
use Rattle.vx_noted.proofs.leaving.leave_by.Goals as goal

pub returns-in-Raise : goal.returns-in-Raise
returns-in-Raise c =
    let p = c.args.program.now in
    let s = state_of c.args.state.now in
    let new = state_of c.pass_all-in-Raise.new.state in
    subst (λ (o : Outcome). IfOk c.pass_all-in-Raise.result (HasLeft (left_by p (outcome_over s o)) new)) (sym c.in-Raise.is)
    (raise_leaves c.pass_all-in-Raise.result p s (state_of c.exception.new.state) new c.in-Raise.class.0 c.in_ok-object-in-Raise.object (option_map (λ units. units.items) c.in-Raise.message)
    c.in_ok-object-in-Raise.ensures.place c.in_ok-object-in-Raise.ensures.added c.pass_all-in-Raise.ensures)
