-- The class of the object that a slot names, in the heap and in the plain state.
use Rattle.std.proofs.Common.{◌≡◌, ◌<◌, ℕ, Bool, true, List, Some, sym, ◌∙◌, ap, length}
use Rattle.std.proofs.lemmas.Option.{get_or_from_slice_get, slice_get_within}
use Rattle.std.specs.Prelude.{get_or, option_map, slice_get}
use Rattle.vx_group_states.proofs.GrownStates.{held_object}
use Rattle.vx_heap.proofs.Cells.{named}
use Rattle.vx_heap.specs.Heap.{HeapView, class_at_slot, is_held, name_at, object_of as plain_object, objects_at}
use Rattle.vx_heap.specs.declared.object.HeapObject.{HeapObject}
use Rattle.vx_java.specs.Machine.{Object, no_object}
use Rattle.vx_list.specs.Places.{item_or}
use Rattle.vx_space.specs.Sets.{Sets}
use Rattle.vx_value.specs.declared.slot.Slot.TheVariants.{Ref}

-- the class of the object that a reference names
pub class_there : {S I : Type 0} (sets : Sets I) (heap : HeapView S I) (c : List Bool) (i : ℕ) (objects : List Object) → objects ≡ objects_at sets heap c → is_held sets heap c (Ref i) ≡ true → class_at_slot heap (Ref i) ≡ Some (record { 0 = (item_or objects (name_at sets heap.objects c i) no_object).class })
class_there {S = S} {I = I} sets heap c i objects e h =
    let there = held_object sets c (slice_get heap.objects i) h in
    let x : HeapObject S I = there.0 in
    let place : x ≡ get_or heap.objects i x = sym (get_or_from_slice_get heap.objects i x x there.1) in
    let inside : i < length heap.objects = slice_get_within heap.objects i x there.1 in
    let object : item_or objects (name_at sets heap.objects c i) no_object ≡ plain_object sets heap c x = ap (λ xs. item_or xs (name_at sets heap.objects c i) no_object) e ∙ named sets (plain_object sets heap c) heap.objects c i x no_object inside place there.2 in
    ap (option_map (λ (o : HeapObject S I). o.class)) there.1 ∙ (λ j. Some (record { 0 = (sym object j).class }))
