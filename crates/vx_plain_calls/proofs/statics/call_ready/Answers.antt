use Rattle.std.proofs.Common.{drop, length}
use Rattle.vx_java.specs.Calls.{carry_out}
use Rattle.vx_java.specs.Machine.{Here}
use Rattle.vx_java.specs.Selection.{selected_if_concrete}
use Rattle.vx_link.specs.Parts.{method_at}
use Rattle.vx_plain.specs.Views.{state_of, values_of}
use Rattle.vx_plain_here.proofs.Comes.{comes_as}
use Rattle.vx_plain_here.specs.Rows.{here_in}
use Rattle.vx_plain_ready.proofs.GoingOn.{went_on}
use Rattle.vx_plain_calls.proofs.statics.call_ready.Goals as goal

pub returns-in-Some : goal.returns-in-Some
returns-in-Some c =
    let h = here_in c.args.here.now (state_of c.args.state.now) in
    let readied = rw (c.class_of_method-class.ensures, c.in-Some.is) at c.in_ok-made.ensures in
    readied (λ (g : Here). carry_out g (values_of c.args.values.now) (drop (length c.args.values.now) h.state.top.operands) (selected_if_concrete g.program c.args.resolved.0))

pub returns-in-None : goal.returns-in-None
returns-in-None c =
    let h = here_in c.args.here.now (state_of c.args.state.now) in
    let s = state_of c.ready.new.state in
    let later = here_in c.args.here.now s in
    let proceeds = rw (c.class_of_method-class.ensures, c.in-None.is) at c.in_ok-made.ensures in
    let carried = comes_as c.carry_out.result _ _ _ _ (λ i. carry_out later (values_of c.args.values.now) (drop (length c.args.values.now) (proceeds.top i).operands) (c.selected_if_concrete-selected.ensures i)) c.carry_out.ensures in
    went_on c.carry_out.result h (method_at h.program c.args.resolved.0).class.0 s _ (λ (g : Here). carry_out g (values_of c.args.values.now) (drop (length c.args.values.now) h.state.top.operands) (selected_if_concrete g.program c.args.resolved.0)) proceeds carried
