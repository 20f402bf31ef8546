use Rattle.std.proofs.Common.{drop, sym}
use Rattle.vx_plain.specs.Views.{state_of, value_of}
use Rattle.vx_plain_arrays.proofs.Laws.{length_none, length_some}
use Rattle.vx_plain_here.proofs.Comes.{comes_as}
use Rattle.vx_plain_here.specs.Rows.{here_in}
use Rattle.vx_plain_arrays.proofs.loading.array_length.Goals as goal

pub returns-in-Some : goal.returns-in-Some
returns-in-Some c =
    let h = here_in c.args.here.now (state_of c.args.state.now) in
    comes_as c.length_of.result _ _ _ _ (length_some h h.state.top.operands (value_of c.in-Some.array) c.in-Some.ensures) c.length_of.ensures

pub returns-in-None : goal.returns-in-None
returns-in-None c =
    let h = here_in c.args.here.now (state_of c.args.state.now) in
    comes_as c.illegal.result _ _ _ _ (length_none h h.state.top.operands c.in-None.ensures) c.illegal.ensures
