-- What a putfield writes before its runs go on (JVMS 6.5 putfield).
use Rattle.std.specs.Prelude.{◌≡◌, Bool, true, List}
use Rattle.vx_cells.specs.Places.{place_cmp}
use Rattle.vx_cells.specs.Through.{is_cell, place_at, written_through}
use Rattle.vx_cells.specs.declared.place.Place.{Place}
use Rattle.vx_cond.specs.Cond.{Conditional, IsCond}
use Rattle.vx_cond.specs.Slots.{slot_at}
use Rattle.vx_families.specs.Sorts.{narrowed_slot}
use Rattle.vx_group.specs.Group.{GroupView, path_of}
use Rattle.vx_group_states.specs.Answering.{operands_at}
use Rattle.vx_group_states.specs.declared.site.Site.{Site}
use Rattle.vx_heap.specs.Changing.{IsChangedIn}
use Rattle.vx_heap.specs.Heap.{HeapView}
use Rattle.vx_java.specs.Checks.{sort_of}
use Rattle.vx_java.specs.Fields.{Found}
use Rattle.vx_java.specs.FirstObjects.{narrow_of_type}
use Rattle.vx_link.specs.Parts.{field_at}
use Rattle.vx_list.specs.Places.{item_or}
use Rattle.vx_space.specs.Sets.{Extends, Sets}
use Rattle.vx_value.specs.declared.slot.Slot.{Slot}
use Rattle.vx_value.specs.declared.slot.Slot.TheVariants.{Top}
use Rattle.vx_objects.specs.Answers.{stored_place}

-- The values on top of a group's operands, as its field keeps them, were written through the places of the objects below them.
pub record IsPut {S I : Type 0} (site : Site) (found : Found) (old new : Sets I) (before after : HeapView S I) (group : GroupView S I) (places : Conditional Place S I) : Type 0 where
  pub placed : Sets I
  pub valued : Sets I
  pub values : Conditional Slot S I
  pub places_extend : Extends old placed
  pub valid : IsCond place_cmp placed places
  pub scope : places.scope ≡ path_of group
  pub at : (c : List Bool) → old.test (path_of group) c ≡ true → place_at placed places c ≡ stored_place site.program.now before found.named (field_at site.program.now found.field).cell (sort_of found.type) (item_or (operands_at old group.top.stack c) 0 Top) (item_or (operands_at old group.top.stack c) 1 Top)
  pub values_extend : Extends placed valued
  pub value : (c : List Bool) → placed.test (path_of group) c ≡ true → slot_at valued values c ≡ narrowed_slot (narrow_of_type found.type) (item_or (operands_at placed group.top.stack c) 0 Top)
  pub writing_extends : Extends valued new
  pub changed : IsChangedIn valued new before after (λ c. is_cell (place_at valued places c)) (written_through valued before places values)
