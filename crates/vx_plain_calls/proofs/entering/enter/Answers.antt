use Rattle.std.proofs.Common.{drop, refl, sym, ◌∙◌}
use Rattle.vx_link.specs.Parts.{method_at}
use Rattle.vx_plain.specs.Views.{state_of, values_of}
use Rattle.vx_plain_calls.proofs.Laws.{has_code, is_missing, is_native}
use Rattle.vx_plain_here.proofs.Comes.{comes_as}
use Rattle.vx_plain_here.specs.Rows.{here_in}
use Rattle.vx_plain_calls.proofs.entering.enter.Goals as goal

pub returns-in-Code : goal.returns-in-Code
returns-in-Code c =
    let h = here_in c.args.here.now (state_of c.args.state.now) in
    let m = method_at h.program c.args.method.0 in
    comes_as c.enter_code.result _ _ _ _ (has_code h c.args.method.0 m.native m.code (values_of c.args.values.now) (drop c.args.count h.state.top.operands) (sym c.in-Code.is ∙ c.body_of.ensures)) c.enter_code.ensures

pub returns-in-Native : goal.returns-in-Native
returns-in-Native c =
    let h = here_in c.args.here.now (state_of c.args.state.now) in
    let m = method_at h.program c.args.method.0 in
    record { same = is_native h c.args.method.0 m.code (values_of c.args.values.now) (drop c.args.count h.state.top.operands) (sym c.in-Native.is ∙ c.body_of.ensures); stands = refl }

pub returns-in-Missing : goal.returns-in-Missing
returns-in-Missing c =
    let h = here_in c.args.here.now (state_of c.args.state.now) in
    let m = method_at h.program c.args.method.0 in
    comes_as c.missing.result _ _ _ _ (is_missing h c.args.method.0 m.code (values_of c.args.values.now) (drop c.args.count h.state.top.operands) (sym c.in-Missing.is ∙ c.body_of.ensures)) c.missing.ensures
