use Rattle.std.proofs.Common.{◌∙◌, ◌+◌, ap}
use Rattle.std.specs.Ordering.{bool_cmp}
use Rattle.std.specs.Prelude.{nat_le}
use Rattle.vx_frame.proofs.FrameLaws.{IsFrame-stack}
use Rattle.vx_group.proofs.GroupLaws.{IsGroup-top}
use Rattle.vx_java.specs.Checks.{width_of_type}
use Rattle.vx_group_states.proofs.SettleLaws.{lifting_cond}
use Rattle.vx_ready.proofs.Tops.{IsSet-room}
use Rattle.vx_fields.proofs.operands.where_room.Goals as goal

pub stack_size-requires-clause-row : goal.stack_size-requires-clause-row
stack_size-requires-clause-row g c = rw c.top_frame.ensures (IsFrame-stack _ c.args.group.now.top (IsGroup-top _ c.args.group.now c.requires.group))

pub where_yes-requires : goal.where_yes-requires
where_yes-requires g c = lifting_cond bool_cmp _ _ _ c.in_ok-answers.answers c.in_ok-answers.ensures.ok

pub returns-clause-set : goal.returns-clause-set
returns-clause-set g c = IsSet-room _ (width_of_type c.args.field_type) c.args.room c.args.group.now c.in_ok-sizes.sizes c.in_ok-answers.answers c.where_yes.result c.requires.group c.in_ok-sizes.ensures.extends c.in_ok-sizes.ensures.cond (rw c.top_frame.ensures at c.in_ok-sizes.ensures.scope) (rw c.top_frame.ensures at c.in_ok-sizes.ensures.at) (λ n b h. h ∙ ap (λ w. nat_le (w + n) c.args.room) c.width_of-width.ensures) c.in_ok-answers.ensures.ok c.where_yes.ensures

pub stack_size-requires-clause-few : goal.stack_size-requires-clause-few
stack_size-requires-clause-few g c = rw c.top_frame.ensures c.requires.few
