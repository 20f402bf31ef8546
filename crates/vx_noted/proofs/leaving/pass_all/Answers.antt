use Rattle.std.proofs.Common.{ap, sym, ◌∙◌}
use Rattle.vx_noted.proofs.Passed.{handled, passes_on}
use Rattle.vx_noted.specs.Leaving.{leaves}
use Rattle.vx_plain.specs.Views.{state_of}
use Rattle.vx_noted.proofs.leaving.pass_all.Goals as goal

pub passing-preserved : goal.passing-preserved
passing-preserved c =
    let p = c.args.program.now in
    let next = state_of c.leave.new.self in
    c.passing.invariant
    ∙ passes_on p (state_of c.passing.state) c.passing.thrown next _ c.in-None.ensures (sym c.in_ok-thrown.ensures.state ∙ c.in-Some.ensures)
    ∙ ap (λ r. leaves p next r next.callers) (sym c.in_ok-thrown.ensures.object)

pub returns : goal.returns
returns c =
    let s = state_of c.passing.state in
    c.passing.invariant ∙ handled c.args.program.now s c.passing.thrown s.callers (λ e. c.in_default.not-None (c.handler_on_top.ensures ∙ e))
