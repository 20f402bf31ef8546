use Rattle.std.proofs.Common.{ap, sym, ◌∙◌}
use Rattle.vx_java.specs.Machine.{has_room}
use Rattle.vx_plain.specs.Views.{state_of}
use Rattle.vx_plain_casts.proofs.Laws.{fails, passes}
use Rattle.vx_plain_here.proofs.Comes.{comes_as}
use Rattle.vx_plain_here.specs.Rows.{here_in}
use Rattle.vx_plain_fields.proofs.loading.get_static.Goals as goal

pub returns-then-has_room : goal.returns-then-has_room
returns-then-has_room c =
    let h = here_in c.args.seen.now.here (state_of c.args.state.now) in
    comes_as c.get_ready.result _ _ _ _ (passes _ _ _ (sym (c.has_room.ensures ∙ ap (λ n. has_room h n h.state.top.operands) c.width_of.ensures) ∙ c.if-has_room.true)) c.get_ready.ensures

pub returns-else-has_room : goal.returns-else-has_room
returns-else-has_room c =
    let h = here_in c.args.seen.now.here (state_of c.args.state.now) in
    comes_as c.illegal.result _ _ _ _ (fails _ _ _ (sym (c.has_room.ensures ∙ ap (λ n. has_room h n h.state.top.operands) c.width_of.ensures) ∙ c.if-has_room.false)) c.illegal.ensures
