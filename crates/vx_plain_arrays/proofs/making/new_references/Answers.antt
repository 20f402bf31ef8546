use Rattle.std.proofs.Common.{ap, ◌∙◌}
use Rattle.std.proofs.Common.{drop, sym}
use Rattle.vx_java.specs.Arrays.{new_array}
use Rattle.vx_java.specs.Machine.{unsupported}
use Rattle.vx_java.specs.Operation.{class_word}
use Rattle.vx_link.specs.ClassNames.{array_over}
use Rattle.vx_link.specs.Names.{class_name}
use Rattle.vx_plain.specs.Views.{state_of, value_of}
use Rattle.vx_plain_here.proofs.Comes.{comes_as}
use Rattle.vx_plain_here.specs.Rows.{here_in}
use Rattle.vx_plain_tables.proofs.Named.{absent, present}
use Rattle.vx_plain_arrays.proofs.making.new_references.Goals as goal

pub returns-in-Some : goal.returns-in-Some
returns-in-Some c =
    let h = here_in c.args.seen.now.here (state_of c.args.state.now) in
    comes_as c.new_over.result _ _ _ _ (present h (class_name h.pool c.args.index) (λ k. new_array h (array_over h.program k) h.state.top.operands) _ c.in-Some.ensures) c.new_over.ensures

pub returns-in-None : goal.returns-in-None
returns-in-None c =
    let h = here_in c.args.seen.now.here (state_of c.args.state.now) in
    comes_as c.unsupported.result _ _ _ _ (ap (λ name. unsupported h class_word name) c.class_name.ensures ∙ absent h (class_name h.pool c.args.index) (λ k. new_array h (array_over h.program k) h.state.top.operands) c.in-None.ensures) c.unsupported.ensures
