use Rattle.std.proofs.Common.{List, ap, map, reverse, ◌∙◌}
use Rattle.vx_plain.specs.Views.{frame_of, state_of}
use Rattle.vx_plain.specs.declared.frame.Frame.{Frame}
use Rattle.vx_replay.proofs.Turned.{turned}
use Rattle.vx_replay.specs.Replays.{places_in}
use Rattle.vx_replay.proofs.running.places.Goals as goal

pub returns : goal.returns
unfolding state_of
returns c =
    let callers = c.args.state.now.callers.items in
    let below = c.in_ok-places.ensures ∙ ap (λ (fs : List Frame). map (λ f. (f.method, f.position)) (map frame_of fs)) c.as_slice.ensures.value in
    ap places_in (c.reverse.ensures.items ∙ ap reverse c.in_ok-push.ensures.items)
    ∙ turned c.in_ok-places.places.items callers c.place_of.result (frame_of c.args.state.now.top) below c.place_of.ensures.method c.place_of.ensures.position
