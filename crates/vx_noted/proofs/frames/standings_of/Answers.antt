use Rattle.std.proofs.Common.{List, ap, map, reverse, ◌∙◌}
use Rattle.vx_noted.proofs.Turned.{turned}
use Rattle.vx_noted.specs.Noted.{standing_at}
use Rattle.vx_plain.specs.Views.{frame_of, state_of}
use Rattle.vx_plain.specs.declared.frame.Frame.{Frame}
use Rattle.vx_noted.proofs.frames.standings_of.Goals as goal

pub returns : goal.returns
unfolding state_of
returns c =
    let callers = c.args.state.now.callers.items in
    let below = c.in_ok-frames.ensures ∙ ap (λ (fs : List Frame). map standing_at (map frame_of fs)) c.as_slice.ensures.value in
    c.reverse.ensures.items ∙ ap reverse c.in_ok-push.ensures.items
    ∙ turned c.in_ok-frames.frames.items callers c.standing_at.result (frame_of c.args.state.now.top) below c.standing_at.ensures
