use Rattle.std.proofs.Common.{ap, sym, ◌∙◌}
use Rattle.vx_java.specs.Checks.{is_instance_of}
use Rattle.vx_link.specs.Assignability.{assignable}
use Rattle.vx_plain.specs.Views.{state_of, value_of}
use Rattle.vx_plain_here.specs.Rows.{here_in}
use Rattle.vx_plain_here.proofs.here.Here.is_instance.Goals as goal

pub returns-in-Ref : goal.returns-in-Ref
returns-in-Ref c =
    c.assignable.ensures
    ∙ ap (λ from. assignable c.args.self.now.program.now from c.args.class.0) c.class_of.ensures
    ∙ ap (λ v. is_instance_of (here_in c.args.self.now (state_of c.args.state.now)) c.args.class.0 (value_of v)) (sym c.in-Ref.is)
