-- What loads and stores of elements come to at the configurations of a group (JVMS 6.5).
use Rattle.std.specs.Prelude.{◌≡◌, ◌&&◌, Bool, true, List}
use Rattle.vx_cells.specs.Places.{place_cmp}
use Rattle.vx_cells.specs.Through.{IsAnswered, IsGivenFrom, IsPass, is_cell, place_at, written_at}
use Rattle.vx_cells.specs.declared.place.Place.{Place}
use Rattle.vx_cond.specs.Cond.{Conditional, IsCond}
use Rattle.vx_group.specs.Group.{GroupView, path_of}
use Rattle.vx_group_states.specs.Answering.{answer_at, operands_at}
use Rattle.vx_group_states.specs.Answers.{answer_cmp}
use Rattle.vx_group_states.specs.declared.answer.Answer.{Answer}
use Rattle.vx_group_states.specs.declared.site.Site.{Site}
use Rattle.vx_heap.specs.Changing.{IsChangedIn}
use Rattle.vx_heap.specs.Heap.{Globals, HeapView, value_of}
use Rattle.vx_java.specs.declared.operation.Element.{Element}
use Rattle.vx_list.specs.Places.{item_or}
use Rattle.vx_space.specs.Sets.{Sets}
use Rattle.vx_value.specs.declared.slot.Slot.TheVariants.{Top}
use Rattle.vx_arrays.specs.Elements.{kept, loaded_place, written_place}

-- each configuration of the path is answered by the element that it reads, over a heap that may have more texts
pub record AreLoaded {S I : Type 0} (site : Site) (e : Element) (old new : Sets I) (heap : HeapView S I) (group : GroupView S I) (answers : Conditional Answer S I) : Type 0 where
  pub is_cond : IsCond answer_cmp new answers
  pub scope : answers.scope ≡ path_of group
  pub at : (c : List Bool) → old.test (path_of group) c ≡ true → IsAnswered site.program.now heap (IsGivenFrom old heap c) (loaded_place site heap e (operands_at old group.top.stack c)) (answer_at new answers c)

-- where a store writes at a configuration, and what it does to the heap there
abbrev pub place_there : {S I : Type 0} → Site → Element → Sets I → HeapView S I → GroupView S I → List Bool → Place
place_there site e sets heap group c = written_place site.program.now heap e (operands_at sets group.top.stack c)

abbrev pub writes_there : {S I : Type 0} → Site → Element → Sets I → HeapView S I → GroupView S I → List Bool → Bool
writes_there site e sets heap group c = sets.test (path_of group) c && is_cell (place_there site e sets heap group c)

abbrev pub change_there : {S I : Type 0} → Site → Element → Sets I → HeapView S I → GroupView S I → List Bool → Globals → Globals
change_there site e sets heap group c =
    written_at sets heap c (value_of sets heap c (kept e (item_or (operands_at sets group.top.stack c) 0 Top))) (place_there site e sets heap group c)

-- the elements were written at these places
pub record AreWritten {S I : Type 0} (site : Site) (e : Element) (old new : Sets I) (before after : HeapView S I) (group : GroupView S I) (places : Conditional Place S I) : Type 0 where
  pub changed : IsChangedIn old new before after (writes_there site e old before group) (change_there site e old before group)
  pub is_cond : IsCond place_cmp new places
  pub scope : places.scope ≡ path_of group
  pub at : (c : List Bool) → old.test (path_of group) c ≡ true → place_at new places c ≡ place_there site e old before group c

-- and each configuration of the path is answered by its place
pub record AreStored {S I : Type 0} (site : Site) (e : Element) (old new : Sets I) (before after : HeapView S I) (group : GroupView S I) (answers : Conditional Answer S I) : Type 0 where
  pub changed : IsChangedIn old new before after (writes_there site e old before group) (change_there site e old before group)
  pub is_cond : IsCond answer_cmp new answers
  pub scope : answers.scope ≡ path_of group
  pub at : (c : List Bool) → old.test (path_of group) c ≡ true → IsAnswered site.program.now after IsPass (place_there site e old before group c) (answer_at new answers c)
