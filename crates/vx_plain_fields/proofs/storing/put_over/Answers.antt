use Rattle.std.proofs.Common.{drop}
use Rattle.vx_plain.specs.Views.{state_of, value_of}
use Rattle.vx_plain_fields.proofs.Laws.{into_one, into_two}
use Rattle.vx_plain_fields.specs.Fields.{found_of}
use Rattle.vx_plain_here.proofs.Comes.{comes_as}
use Rattle.vx_plain_here.specs.Rows.{here_in}
use Rattle.vx_plain_fields.proofs.storing.put_over.Goals as goal

pub returns-in-Some : goal.returns-in-Some
returns-in-Some c =
    let h = here_in c.args.seen.now.here (state_of c.args.state.now) in
    comes_as c.put_both.result _ _ _ _ (into_two h (found_of c.args.found) h.state.top.operands (value_of c.args.value) (value_of c.in-Some.object) c.requires c.in-Some.ensures) c.put_both.ensures

pub returns-in-None : goal.returns-in-None
returns-in-None c =
    let h = here_in c.args.seen.now.here (state_of c.args.state.now) in
    comes_as c.illegal.result _ _ _ _ (into_one h (found_of c.args.found) h.state.top.operands (value_of c.args.value) c.requires c.in-None.ensures) c.illegal.ensures
