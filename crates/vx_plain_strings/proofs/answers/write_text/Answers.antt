use Rattle.std.proofs.Common.{refl}
use Rattle.vx_java.specs.Machine.{Text, with_cell}
use Rattle.vx_plain.specs.Views.{state_of}
use Rattle.vx_plain_here.proofs.Comes.{comes_from}
use Rattle.vx_plain_strings.proofs.answers.write_text.Goals as goal

pub returns : goal.returns
returns c =
    let s = state_of c.args.state.now in
    let comes = rw c.write_text.ensures at c.nothing.ensures in
    comes_from c.nothing.result _ s (with_cell s c.args.object 0 (Text c.args.units.items)) _ refl comes
