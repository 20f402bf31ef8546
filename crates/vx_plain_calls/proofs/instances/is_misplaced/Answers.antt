use Rattle.std.proofs.Common.{ap, not, sym, ◌&&◌, ◌∙◌}
use Rattle.vx_java.specs.Machine.{object_at}
use Rattle.vx_link.specs.Assignability.{assignable}
use Rattle.vx_plain.specs.Views.{state_of}
use Rattle.vx_plain_here.specs.Rows.{here_in}
use Rattle.vx_plain_calls.proofs.instances.is_misplaced.Goals as goal

pub returns-then-call : goal.returns-then-call
returns-then-call c =
    let h = here_in c.args.here.now (state_of c.args.state.now) in
    ap not (c.assignable.ensures ∙ ap (λ from. assignable h.program from c.args.call.now.named.0) c.class_of.ensures)
    ∙ ap (λ b. b && not (assignable h.program (object_at h.state c.args.receiver).class c.args.call.now.named.0)) (sym c.if-call.true)
