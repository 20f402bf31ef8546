use Rattle.std.proofs.Common.{◌≡◌, ◌++◌, take}
use Rattle.std.specs.List.{flat_map}
use Rattle.vx_group.specs.Group.{group_ids}
use Rattle.vx_standing.proofs.state.groups_out.Given as goal

abbrev pub invariant-loop-group : goal.invariant-loop-group
invariant-loop-group g l = l.ids.items ≡ l.initial.ids.items ++ flat_map group_ids (take l.group-index l.fn.groups)
