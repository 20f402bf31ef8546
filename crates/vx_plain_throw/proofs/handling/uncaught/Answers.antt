use Rattle.std.proofs.Common.{ap, map, reverse, ◌∙◌}
use Rattle.vx_plain.specs.Views.{frame_of, state_of}
use Rattle.vx_plain_throw.proofs.Laws.{over}
use Rattle.vx_plain_throw.specs.Passing.{uncaught_over}
use Rattle.vx_plain_throw.proofs.handling.uncaught.Goals as goal

pub returns-in-Some : goal.returns-in-Some
unfolding state_of
returns-in-Some c =
    let p = c.args.program.now in
    let callers = c.args.state.now.callers.items in
    c.uncaught_over.ensures
    ∙ ap (λ frames. uncaught_over p (reverse (map frame_of frames)) c.in-Some.class.0) c.as_slice.ensures.value
    ∙ ap (over p (reverse (map frame_of callers))) c.in-Some.ensures

pub returns-in-None : goal.returns-in-None
unfolding state_of
returns-in-None c = ap (over c.args.program.now (reverse (map frame_of c.args.state.now.callers.items))) c.in-None.ensures
