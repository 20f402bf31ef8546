use Rattle.std.proofs.Common.{sym}
use Rattle.vx_plain.specs.Views.{state_of}
use Rattle.vx_plain_here.proofs.Comes.{comes_as}
use Rattle.vx_plain_here.specs.Rows.{here_in}
use Rattle.vx_plain_calls.proofs.invoking.invoke.Goals as goal

pub returns : goal.returns
returns c =
    let h = here_in c.args.seen.now.here (state_of c.args.state.now) in
    comes_as c.by_reference.result _ _ _ _ (sym (c.method_reference-reference.ensures.decides h)) c.by_reference.ensures
