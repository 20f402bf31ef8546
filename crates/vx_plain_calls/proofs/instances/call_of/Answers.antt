use Rattle.std.proofs.Common.{ap, drop, length, sym, ◌∙◌, ◌+◌, ◌∷◌}
use Rattle.vx_java.specs.Calls.{dispatch}
use Rattle.vx_java.specs.Named.{in_bytes}
use Rattle.vx_plain.specs.Views.{state_of, value_of, values_of}
use Rattle.vx_plain_casts.proofs.Laws.{null_raises, object_goes}
use Rattle.vx_plain_here.proofs.Comes.{comes_as}
use Rattle.vx_plain_here.specs.Rows.{here_in}
use Rattle.vx_plain_calls.proofs.instances.call_of.Goals as goal

pub returns-in-Some : goal.returns-in-Some
returns-in-Some c =
    let h = here_in c.args.here.now (state_of c.args.state.now) in
    comes_as c.dispatch.result _ _ _ _ (object_goes h c.args.receiver _ (λ r. dispatch h c.args.call.now.mode (in_bytes c.args.call.now.reference) c.args.call.now.named.0 c.args.call.now.resolved.0 (values_of c.args.values.now) r (drop (length c.args.values.now + 1) h.state.top.operands)) (sym c.in-Some.ensures)) c.dispatch.ensures

pub returns-in-None : goal.returns-in-None
returns-in-None c =
    let h = here_in c.args.here.now (state_of c.args.state.now) in
    comes_as c.raise.result _ _ _ _ (null_raises h c.args.receiver (λ r. dispatch h c.args.call.now.mode (in_bytes c.args.call.now.reference) c.args.call.now.named.0 c.args.call.now.resolved.0 (values_of c.args.values.now) r (drop (length c.args.values.now + 1) h.state.top.operands)) (sym c.in-None.ensures)) c.raise.ensures
