use Rattle.std.proofs.Common.{List, ap, drop, length, ℕ, ◌∙◌}
use Rattle.vx_desc.specs.declared.java_type.Descriptor.{Descriptor}
use Rattle.vx_java.specs.Calls.{dispatch, on_receiver}
use Rattle.vx_java.specs.Machine.{Here, Outcome, Value}
use Rattle.vx_java.specs.Named.{in_bytes}
use Rattle.vx_java.specs.declared.operation.Mode.{Mode}
use Rattle.vx_link.specs.Names.{Member, member}
use Rattle.vx_plain.specs.Views.{state_of, values_of}
use Rattle.vx_plain_calls.proofs.Laws.{arguments_given}
use Rattle.vx_plain_here.proofs.Comes.{comes_as}
use Rattle.vx_plain_here.specs.Rows.{here_in}
use Rattle.vx_plain_calls.proofs.instances.call_instance.Goals as goal

abbrev with_values : Here → Mode → Member → (named resolved : ℕ) → List Value → List Value → Outcome
with_values h mode m named resolved values below = on_receiver h m named below (dispatch h mode m named resolved values)

pub returns-in-Some : goal.returns-in-Some
returns-in-Some c =
    let h = here_in c.args.seen.now.here (state_of c.args.state.now) in
    let operands = h.state.top.operands in
    let types = c.as_slice.ensures ∙ ap (λ (d : Descriptor). d.arguments) c.in_ok-signature.ensures in
    let given = rw c.in-Some.is at c.in_ok-found.ensures in
    comes_as c.call_with.result _ _ _ _
    (ap (λ vs. with_values h c.args.mode (in_bytes c.member-reference.result) c.args.named.0 c.args.resolved.0 (values_of vs) (drop (length vs) operands)) c.deref.ensures.value
    ∙ ap (λ m. with_values h c.args.mode m c.args.named.0 c.args.resolved.0 (values_of c.in-Some.values.items) (drop (length c.in-Some.values.items) operands)) c.member-reference.ensures
    ∙ arguments_given h (member h.pool c.args.index) (with_values h c.args.mode (member h.pool c.args.index) c.args.named.0 c.args.resolved.0) c.as_slice.result.now (values_of c.in-Some.values.items) (drop (length c.in-Some.values.items) operands) types given)
    c.call_with.ensures
