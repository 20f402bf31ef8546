use Rattle.std.proofs.Common.{ap, sym, ◌∙◌}
use Rattle.vx_plain.specs.Views.{state_of}
use Rattle.vx_plain_casts.proofs.Laws.{fails, passes}
use Rattle.vx_plain_here.proofs.Comes.{comes_as}
use Rattle.vx_plain_here.specs.Rows.{here_in}
use Rattle.vx_plain_fields.proofs.instances.new_of_class.Goals as goal

pub returns-then-is_without_objects : goal.returns-then-is_without_objects
returns-then-is_without_objects c =
    let h = here_in c.args.seen.now.here (state_of c.args.state.now) in
    comes_as c.raise.result _ _ _ _ (passes _ _ _ (sym (c.is_without_objects.ensures) ∙ c.if-is_without_objects.true)) c.raise.ensures

pub returns-else-is_without_objects : goal.returns-else-is_without_objects
returns-else-is_without_objects c =
    let h = here_in c.args.seen.now.here (state_of c.args.state.now) in
    comes_as c.new_in_room.result _ _ _ _ (fails _ _ _ (sym (c.is_without_objects.ensures) ∙ c.if-is_without_objects.false)) c.new_in_room.ensures
