-- The groups that trials of frames begin with.
use Rattle.std.specs.Prelude.{◌≡◌, Bool, false, List, [], None}
use Rattle.vx_value.specs.declared.slot.Slot.{Slot}
use Rattle.vx_value.specs.Slot.{slot_cmp}
use Rattle.vx_space.specs.Sets.{Sets}
use Rattle.vx_cond.specs.Cond.{Conditional, IsCond}
use Rattle.vx_cond.specs.Slots.{slot_at}
use Rattle.vx_group.specs.Group.{GroupView, path_of, IsGroup}
use Rattle.vx_frames.specs.Entering.{is_long}

-- a value of all configurations that is nowhere a long
pub record IsShort {S I : Type 0} (sets : Sets I) (value : Conditional Slot S I) : Type 0 where
  pub is_cond : IsCond slot_cmp sets value
  pub scope : value.scope ≡ sets.always
  pub short : (c : List Bool) → is_long (slot_at sets value c) ≡ false

-- a group of all configurations, of one frame
pub record IsAlone {S I : Type 0} (sets : Sets I) (group : GroupView S I) : Type 0 where
  pub is_group : IsGroup sets group
  pub path : path_of group ≡ sets.always
  pub below : group.below ≡ []
  pub caller : group.caller ≡ None
