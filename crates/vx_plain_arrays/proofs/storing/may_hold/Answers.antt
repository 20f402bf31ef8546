use Rattle.std.proofs.Common.{ap, ◌∙◌}
use Rattle.vx_java.specs.Machine.{object_at}
use Rattle.vx_link.specs.Assignability.{assignable}
use Rattle.vx_link.specs.ClassNames.{component_of}
use Rattle.vx_plain.specs.Views.{state_of}
use Rattle.vx_plain_arrays.proofs.Laws.{held}
use Rattle.vx_plain_here.specs.Rows.{here_in}
use Rattle.vx_plain_arrays.proofs.storing.may_hold.Goals as goal

pub returns-in-Some : goal.returns-in-Some
returns-in-Some c =
    let h = here_in c.args.here.now (state_of c.args.state.now) in
    c.assignable.ensures
    ∙ ap (λ from. assignable h.program from c.component_of.result.0) c.class_of.ensures
    ∙ ap (assignable h.program (object_at h.state c.in-Some.object).class) (c.component_of.ensures ∙ ap (component_of h.program) c.class_of-in-Some.ensures)
    ∙ held h c.args.array c.in-Some.object c.args.value c.in-Some.ensures
