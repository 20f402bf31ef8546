use Rattle.std.proofs.Common.{refl}
use Rattle.vx_java.specs.Machine.{with_cell}
use Rattle.vx_plain.specs.Views.{state_of, value_of}
use Rattle.vx_plain_here.proofs.Comes.{comes_from}
use Rattle.vx_plain_natives.proofs.objects.begin_with.Goals as goal

pub returns : goal.returns
returns c =
    let s = state_of c.args.state.now in
    let both = rw c.in_ok-write_cell.ensures.ok at c.in_ok-write_cell-2.ensures.ok in
    let comes = rw both at c.nothing.ensures in
    comes_from c.nothing.result _ s (with_cell (with_cell s c.args.object 0 (value_of c.args.first)) c.args.object 1 (value_of c.args.second)) _ refl comes
