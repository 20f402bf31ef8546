use Rattle.std.proofs.Common.{◌++◌}
use Rattle.vx_linker.proofs.Cycles.{parents-split}
use Rattle.vx_linker.proofs.judging.parent_places.Goals as goal

pub returns : goal.returns
returns c =
    let e = parents-split (c.args.files.now.classes.items ++ c.args.files.now.core.items) c.args.class.now in
    cc (c.in_ok-add_interfaces.ensures, c.in_ok-places.ensures, c.of.ensures)
