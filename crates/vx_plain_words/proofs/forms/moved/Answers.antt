use Rattle.std.proofs.Common.{drop, refl, ◌+◌}
use Rattle.vx_java.specs.Machine.{at_position}
use Rattle.vx_java.specs.StackForms.{values_reordered}
use Rattle.vx_plain.specs.Views.{state_of}
use Rattle.vx_plain_here.proofs.Comes.{comes_as, comes_from}
use Rattle.vx_plain_here.specs.Rows.{here_in}
use Rattle.vx_plain_words.proofs.FormLaws.{form_there}
use Rattle.vx_plain_words.specs.Taken.{count, values_in}
use Rattle.vx_plain_words.proofs.forms.moved.Goals as goal

pub returns : goal.returns
returns c =
    let s = state_of c.args.state.now in
    let comes = rw c.in_ok-reorder.ensures at c.settle.ensures in
    comes_as c.settle.result _ _ _ _ (form_there (here_in c.args.here.now s) c.args.form c.args.upper c.args.lower c.requires.upper c.requires.lower)
    (comes_from c.settle.result _ s (at_position s s.top.position (values_reordered c.args.form (values_in c.args.upper) (values_in c.args.lower) (drop (count c.args.upper + count c.args.lower) s.top.operands))) _ refl comes)
