use Rattle.std.proofs.Common.{ap, ◌∙◌}
use Rattle.vx_java.specs.Machine.{unsupported}
use Rattle.vx_java.specs.Objects.{new_of_class}
use Rattle.vx_java.specs.Operation.{class_word}
use Rattle.vx_link.specs.Names.{class_name}
use Rattle.vx_plain.specs.Views.{state_of}
use Rattle.vx_plain_here.proofs.Comes.{comes_as}
use Rattle.vx_plain_here.specs.Rows.{here_in}
use Rattle.vx_plain_tables.proofs.Named.{absent, present}
use Rattle.vx_plain_fields.proofs.instances.new_instance.Goals as goal

pub returns-in-Some : goal.returns-in-Some
returns-in-Some c =
    let h = here_in c.args.seen.now.here (state_of c.args.state.now) in
    comes_as c.new_of_class.result _ _ _ _ (present h (class_name h.pool c.args.index) (new_of_class h) c.in-Some.class c.in-Some.ensures) c.new_of_class.ensures

pub returns-in-None : goal.returns-in-None
returns-in-None c =
    let h = here_in c.args.seen.now.here (state_of c.args.state.now) in
    comes_as c.unsupported.result _ _ _ _ (ap (λ name. unsupported h class_word name) c.class_name.ensures ∙ absent h (class_name h.pool c.args.index) (new_of_class h) c.in-None.ensures) c.unsupported.ensures
