use Rattle.std.proofs.Common.{ap}
use Rattle.vx_java.specs.Objects.{check_cast}
use Rattle.vx_plain.specs.Views.{state_of}
use Rattle.vx_plain_here.proofs.Comes.{comes_as}
use Rattle.vx_plain_here.specs.Rows.{here_in}
use Rattle.vx_plain_rows.proofs.Classes.{number_named}
use Rattle.vx_plain_rows.proofs.objects.cast.Goals as goal

pub check_cast-requires : goal.check_cast-requires
check_cast-requires c = number_named c.args.seen.now.here.program.now _ c.class_name-name.result.now c.class_named-named.result c.class_name-name.ensures c.class_named-named.ensures

pub returns : goal.returns
returns c =
    let h = here_in c.args.seen.now.here (state_of c.args.state.now) in
    comes_as c.check_cast.result _ _ _ _ (ap (λ name. check_cast h name h.state.top.operands) c.class_name-name.ensures) c.check_cast.ensures
