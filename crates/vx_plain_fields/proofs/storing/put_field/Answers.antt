use Rattle.vx_plain.specs.Views.{state_of}
use Rattle.vx_plain_fields.proofs.Laws.{into_none}
use Rattle.vx_plain_fields.specs.Fields.{found_of}
use Rattle.vx_plain_here.proofs.Comes.{comes_as}
use Rattle.vx_plain_here.specs.Rows.{here_in}
use Rattle.vx_plain_fields.proofs.storing.put_field.Goals as goal

pub returns-in-None : goal.returns-in-None
returns-in-None c =
    let h = here_in c.args.seen.now.here (state_of c.args.state.now) in
    comes_as c.illegal.result _ _ _ _ (into_none h (found_of c.args.found) h.state.top.operands c.in-None.ensures) c.illegal.ensures
