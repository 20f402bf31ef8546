use Rattle.std.proofs.Common.{ap, drop, length, sym, ◌∙◌, ◌+◌, ◌∷◌}
use Rattle.vx_java.specs.Machine.{object_at, push_new}
use Rattle.vx_java.specs.Named.{in_bytes}
use Rattle.vx_plain.specs.Views.{state_of, value_of, values_of}
use Rattle.vx_plain_calls.proofs.Laws.{receiver_none, receiver_some}
use Rattle.vx_plain_here.proofs.Comes.{comes_as}
use Rattle.vx_plain_here.specs.Rows.{here_in}
use Rattle.vx_plain_calls.proofs.instances.clone_top.Goals as goal

pub returns-in-Some : goal.returns-in-Some
returns-in-Some c =
    let h = here_in c.args.here.now (state_of c.args.state.now) in
    comes_as c.clone_by.result _ _ _ _ (receiver_some h (in_bytes c.args.reference.now) c.args.named.0 h.state.top.operands (λ r rest. push_new h (object_at h.state r) rest) (value_of c.in-Some.array) c.in-Some.ensures) c.clone_by.ensures

pub returns-in-None : goal.returns-in-None
returns-in-None c =
    let h = here_in c.args.here.now (state_of c.args.state.now) in
    comes_as c.illegal.result _ _ _ _ (receiver_none h (in_bytes c.args.reference.now) c.args.named.0 h.state.top.operands (λ r rest. push_new h (object_at h.state r) rest) c.in-None.ensures) c.illegal.ensures
