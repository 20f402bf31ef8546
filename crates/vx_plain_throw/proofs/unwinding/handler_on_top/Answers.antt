use Rattle.std.proofs.Common.{ap, ◌∙◌}
use Rattle.vx_plain.specs.Views.{frame_of, state_of}
use Rattle.vx_plain_throw.proofs.Laws.{same_handler}
use Rattle.vx_plain_throw.specs.Passing.{handler_at}
use Rattle.vx_plain_throw.proofs.unwinding.handler_on_top.Goals as goal

pub returns : goal.returns
unfolding state_of
returns c =
    let p = c.args.program.now in
    let s = state_of c.args.state.now in
    c.handler_of.ensures ∙ ap (handler_at p (frame_of c.args.state.now.top)) c.class_of.ensures ∙ same_handler p s s.top.kind c.args.object
