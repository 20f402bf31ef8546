use Rattle.std.proofs.Common.{◌∙◌, ap, sym}
use Rattle.std.specs.Prelude.{option_map}
use Rattle.vx_invoke.specs.Called.{call_on_some}
use Rattle.vx_invoke.proofs.Targets.{call_of-other}
use Rattle.vx_invoke.proofs.call.call_of.Goals as goal

pub returns-in-Some : goal.returns-in-Some
returns-in-Some g c = c.call_on.ensures ∙ ap (λ o. call_on_some c.args.program.now c.args.target.now (option_map (λ class. class.0) o)) c.in-Some.ensures ∙ sym (call_of-other c.args.program.now c.args.heap.now c.args.target.now c.args.receiver c.in_default.not-Null)

pub returns-in-None : goal.returns-in-None
returns-in-None g c = ap (λ o. call_on_some c.args.program.now c.args.target.now (option_map (λ class. class.0) o)) c.in-None.ensures ∙ sym (call_of-other c.args.program.now c.args.heap.now c.args.target.now c.args.receiver c.in_default.not-Null)
