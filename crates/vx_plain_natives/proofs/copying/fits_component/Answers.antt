use Rattle.std.proofs.Common.{ap, sym, ◌∙◌}
use Rattle.vx_java.specs.Library.{fits_component}
use Rattle.vx_link.specs.Assignability.{assignable}
use Rattle.vx_plain.specs.Views.{state_of, value_of}
use Rattle.vx_plain_here.specs.Rows.{here_in}
use Rattle.vx_plain_natives.proofs.copying.fits_component.Goals as goal

pub returns-in-Ref : goal.returns-in-Ref
returns-in-Ref c =
    c.assignable.ensures
    ∙ ap (λ from. assignable c.args.call.now.here.now.program.now from c.args.component.0) c.class_of.ensures
    ∙ ap (λ v. fits_component (here_in c.args.call.now.here.now (state_of c.args.state.now)) c.args.component.0 (value_of v)) (sym c.in-Ref.is)
