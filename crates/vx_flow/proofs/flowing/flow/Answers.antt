use Rattle.std.proofs.Common.{ap, sym, ◌∙◌}
use Rattle.std.proofs.lemmas.Result.{IfOk-weaker}
use Rattle.vx_flow.specs.Flowing.{flow_in, plain}
use Rattle.vx_verify.proofs.ShortCodes.{is_short}
use Rattle.vx_flow.proofs.flowing.flow.Goals as goal

pub flow_at-requires-clause-short : goal.flow_at-requires-clause-short
flow_at-requires-clause-short c = is_short c.args.program.now c.args.method.0 c.in-Some.code.now c.requires.codes (sym c.in-Some.ensures)

pub returns-in-Some : goal.returns-in-Some
returns-in-Some c =
    IfOk-weaker c.flow_at.result _ _ (λ made h. h ∙ ap (λ o. flow_in c.args.program.now c.args.method.0 o c.args.position (plain c.args.before.now)) c.in-Some.ensures) c.flow_at.ensures

pub returns-in-None : goal.returns-in-None
returns-in-None c = ap (λ o. flow_in c.args.program.now c.args.method.0 o c.args.position (plain c.args.before.now)) c.in-None.ensures
