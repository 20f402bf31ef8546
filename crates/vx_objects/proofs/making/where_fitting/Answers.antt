use Rattle.std.proofs.Common.{◌+◌}
use Rattle.std.specs.Prelude.{nat_le}
use Rattle.vx_frame.proofs.FrameLaws.{IsFrame-stack}
use Rattle.vx_group.proofs.GroupLaws.{IsGroup-top}
use Rattle.vx_group_states.specs.Answering.{operands_at}
use Rattle.vx_group_states.specs.Widths.{slots_size}
use Rattle.vx_objects.proofs.MakingRows.{IsSet-told}
use Rattle.vx_objects.proofs.making.where_fitting.Goals as goal

pub where_room-requires-clause-row : goal.where_room-requires-clause-row
where_room-requires-clause-row g c = rw c.top_frame.ensures (IsFrame-stack _ c.args.group.now.top (IsGroup-top _ c.args.group.now c.requires.group))

pub where_room-requires-clause-few : goal.where_room-requires-clause-few
where_room-requires-clause-few g c = rw c.top_frame.ensures c.requires.few

pub where_yes-requires : goal.where_yes-requires
where_yes-requires g c = c.in_ok-rooms.ensures.cond

pub returns-clause-set : goal.returns-clause-set
returns-clause-set g c = IsSet-told (λ d. nat_le (1 + slots_size (operands_at (g.S.Space.sets c.args.space.now) c.args.group.now.top.stack d)) c.args.room) c.args.group.now c.in_ok-rooms.rooms c.where_yes.result c.requires.group c.in_ok-rooms.ensures.extends c.in_ok-rooms.ensures.cond (rw c.top_frame.ensures at c.in_ok-rooms.ensures.scope) (rw c.top_frame.ensures at c.in_ok-rooms.ensures.at) c.where_yes.ensures
