use Rattle.std.proofs.Common.{ap}
use Rattle.vx_java.specs.Objects.{instance_of}
use Rattle.vx_plain.specs.Views.{state_of}
use Rattle.vx_plain_here.proofs.Comes.{comes_as}
use Rattle.vx_plain_here.specs.Rows.{here_in}
use Rattle.vx_plain_rows.proofs.Classes.{number_named}
use Rattle.vx_plain_rows.proofs.objects.compare.Goals as goal

pub instance_of-requires : goal.instance_of-requires
instance_of-requires c = number_named c.args.seen.now.here.program.now _ c.class_name-name.result.now c.class_named-named.result c.class_name-name.ensures c.class_named-named.ensures

pub returns : goal.returns
returns c =
    let h = here_in c.args.seen.now.here (state_of c.args.state.now) in
    comes_as c.instance_of.result _ _ _ _ (ap (λ name. instance_of h name h.state.top.operands) c.class_name-name.ensures) c.instance_of.ensures
