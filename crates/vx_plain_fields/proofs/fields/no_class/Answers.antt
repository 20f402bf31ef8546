use Rattle.std.proofs.Common.{ap}
use Rattle.vx_java.specs.Machine.{unsupported}
use Rattle.vx_java.specs.Operation.{class_word}
use Rattle.vx_link.specs.Names.{Member}
use Rattle.vx_plain.specs.Views.{state_of}
use Rattle.vx_plain_here.proofs.Comes.{comes_as}
use Rattle.vx_plain_here.specs.Rows.{here_in}
use Rattle.vx_plain_fields.proofs.fields.no_class.Goals as goal

pub returns : goal.returns
returns c =
    let h = here_in c.args.seen.now.here (state_of c.args.state.now) in
    comes_as c.unsupported.result _ _ _ _ (ap (λ (m : Member). unsupported h class_word m.class) c.member-named.ensures) c.unsupported.ensures
