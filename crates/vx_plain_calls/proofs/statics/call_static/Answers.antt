use Rattle.std.proofs.Common.{List, ap, drop, length, ℕ, ◌∙◌}
use Rattle.vx_desc.specs.declared.java_type.Descriptor.{Descriptor}
use Rattle.vx_java.specs.Calls.{carry_out}
use Rattle.vx_java.specs.Initialisation.{when_initialised}
use Rattle.vx_java.specs.Machine.{Here, Outcome, Value}
use Rattle.vx_java.specs.Selection.{selected_if_concrete}
use Rattle.vx_link.specs.Names.{member}
use Rattle.vx_link.specs.Parts.{method_at}
use Rattle.vx_plain.specs.Views.{state_of, values_of}
use Rattle.vx_plain_calls.proofs.Laws.{arguments_given}
use Rattle.vx_plain_here.proofs.Comes.{comes_as}
use Rattle.vx_plain_here.specs.Rows.{here_in}
use Rattle.vx_plain_calls.proofs.statics.call_static.Goals as goal

abbrev once_ready : Here → (resolved : ℕ) → List Value → List Value → Outcome
once_ready h resolved values rest = when_initialised h (method_at h.program resolved).class.0 (λ (g : Here). carry_out g values rest (selected_if_concrete g.program resolved))

pub returns-in-Some : goal.returns-in-Some
returns-in-Some c =
    let h = here_in c.args.seen.now.here (state_of c.args.state.now) in
    let operands = h.state.top.operands in
    let types = c.as_slice.ensures ∙ ap (λ (d : Descriptor). d.arguments) c.in_ok-signature.ensures in
    let given = rw c.in-Some.is at c.in_ok-found.ensures in
    comes_as c.call_ready.result _ _ _ _
    (ap (λ vs. once_ready h c.args.resolved.0 (values_of vs) (drop (length vs) operands)) c.deref.ensures.value
    ∙ arguments_given h (member h.pool c.args.index) (once_ready h c.args.resolved.0) c.as_slice.result.now (values_of c.in-Some.values.items) (drop (length c.in-Some.values.items) operands) types given)
    c.call_ready.ensures
