use Rattle.std.proofs.Common.{ap, drop, length, sym, ◌∙◌, ◌+◌, ◌∷◌}
use Rattle.vx_java.specs.Calls.{dispatch, on_receiver}
use Rattle.vx_java.specs.Named.{in_bytes}
use Rattle.vx_plain.specs.Views.{state_of, value_of, values_of}
use Rattle.vx_plain_calls.proofs.Laws.{drop_more, receiver_none, receiver_some, under}
use Rattle.vx_plain_here.proofs.Comes.{comes_as}
use Rattle.vx_plain_here.specs.Rows.{here_in}
use Rattle.vx_plain_calls.proofs.instances.call_with.Goals as goal

pub returns-in-Some : goal.returns-in-Some
returns-in-Some c =
    let h = here_in c.args.here.now (state_of c.args.state.now) in
    comes_as c.call_by.result _ _ _ _ (ap (λ rest. on_receiver h (in_bytes c.args.call.now.reference) c.args.call.now.named.0 (value_of c.in-Some.receiver ∷ rest) (dispatch h c.args.call.now.mode (in_bytes c.args.call.now.reference) c.args.call.now.named.0 c.args.call.now.resolved.0 (values_of c.args.values.now))) (sym (drop_more h.state.top.operands (length c.args.values.now))) ∙ receiver_some h (in_bytes c.args.call.now.reference) c.args.call.now.named.0 (drop (length c.args.values.now) h.state.top.operands) (dispatch h c.args.call.now.mode (in_bytes c.args.call.now.reference) c.args.call.now.named.0 c.args.call.now.resolved.0 (values_of c.args.values.now)) (value_of c.in-Some.receiver) (c.in-Some.ensures ∙ under h.state.top.operands (length c.args.values.now))) c.call_by.ensures

pub returns-in-None : goal.returns-in-None
returns-in-None c =
    let h = here_in c.args.here.now (state_of c.args.state.now) in
    comes_as c.illegal.result _ _ _ _ (receiver_none h (in_bytes c.args.call.now.reference) c.args.call.now.named.0 (drop (length c.args.values.now) h.state.top.operands) (dispatch h c.args.call.now.mode (in_bytes c.args.call.now.reference) c.args.call.now.named.0 c.args.call.now.resolved.0 (values_of c.args.values.now)) (c.in-None.ensures ∙ under h.state.top.operands (length c.args.values.now))) c.illegal.ensures
