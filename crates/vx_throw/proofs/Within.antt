-- Objects that are thrown, and outcomes, in a part of a group's path.
use Rattle.std.proofs.Common.{◌≡◌, Bool, true, List, refl, sym, ◌∙◌, ap}
use Rattle.std.specs.Prelude.{Option, Some}
use Rattle.vx_space.specs.Sets.{Sets, Extends}
use Rattle.vx_cond.specs.Cond.{Conditional, IsCond, IsInside}
use Rattle.vx_cond.specs.Slots.{or_top, slot_at}
use Rattle.vx_cond.proofs.CondLaws.{cond_at-extends}
use Rattle.vx_group.specs.declared.callers.Caller.{Caller}
use Rattle.vx_group.specs.Group.{GroupView, IsGroup, IsPartOf, path_of}
use Rattle.vx_group.proofs.GroupLaws.{IsGroup-path_known}
use Rattle.vx_group_states.proofs.OutcomeStates.{AreOutcomes-through, object_named-extends}
use Rattle.vx_group_states.specs.Stands.{CameTo, Continues, Grows, is_object, object_named}
use Rattle.vx_families.proofs.NameLaws.{name_stays}
use Rattle.vx_heap.proofs.HeapLaws.{is_held-extends}
use Rattle.vx_heap.specs.Heap.{HeapView, IsHeap, is_held, value_of}
use Rattle.vx_java.specs.Machine.{Ref as RefValue}
use Rattle.vx_java.specs.Machine.{Outcome as PlainOutcome}
use Rattle.vx_link.specs.declared.program.Program.{Program}
use Rattle.vx_outcome.specs.declared.outcome.Outcome.{Outcome}
use Rattle.vx_value.specs.Slot.{slot_cmp}
use Rattle.vx_value.specs.declared.slot.Slot.{Slot}
use Rattle.vx_value.specs.declared.slot.Slot.TheVariants.{Top, Int, Long, Null, Ref, Text}
use Rattle.vx_throw.specs.Flights.{thrown_at}
use Rattle.vx_throw.specs.Landings.{AreObjectsHeld}

-- ---- slots that are objects

-- what one stands for
pub object_value : {S I : Type 0} (sets : Sets I) (heap : HeapView S I) (c : List Bool) (slot : Slot) → is_object slot ≡ true → value_of sets heap c slot ≡ RefValue (object_named sets heap c slot)
object_value sets heap c Top h = cc h
object_value sets heap c (Int n) h = cc h
object_value sets heap c (Long n) h = cc h
object_value sets heap c Null h = cc h
object_value sets heap c (Ref i) h = refl
object_value sets heap c (Text n) h = cc h

-- one that is there keeps its name over a heap that grew
pub named_later : {S I : Type 0} {old new : Sets I} → Extends old new → (before after : HeapView S I) → IsHeap old before → Grows before after → (c : List Bool) (slot : Slot) → is_object slot ≡ true → is_held old before c slot ≡ true → object_named new after c slot ≡ object_named old before c slot
named_later e before after v k c Top o h = cc
named_later e before after v k c (Int n) o h = cc
named_later e before after v k c (Long n) o h = cc
named_later e before after v k c Null o h = cc
named_later e before after v k c (Ref i) o h = name_stays e before after v k c i h
named_later e before after v k c (Text n) o h = cc

-- ---- objects over a later space

pub slot_later : {S I : Type 0} {old new : Sets I} → Extends old new → (objects : Conditional Slot S I) → IsCond slot_cmp old objects → (c : List Bool) → slot_at new objects c ≡ slot_at old objects c
slot_later e objects v c = ap or_top (cond_at-extends slot_cmp e objects v c)

pub thrown_later : {S I : Type 0} {old new : Sets I} → Extends old new → (heap : HeapView S I) → IsHeap old heap → (objects : Conditional Slot S I) → IsCond slot_cmp old objects → (c : List Bool) → thrown_at new heap objects c ≡ thrown_at old heap objects c
thrown_later {old = old} {new = new} e heap h objects v c = ap (object_named new heap c) (slot_later e objects v c) ∙ object_named-extends e heap h c (slot_at old objects c)

pub scope_known : {S I : Type 0} (sets : Sets I) (objects : Conditional Slot S I) → IsCond slot_cmp sets objects → sets.is_known objects.scope ≡ true
unfolding IsCond
scope_known sets objects v = v.scope_known

-- and in a part of the path
pub objects_inside : {S I : Type 0} {old new : Sets I} → Extends old new → (objects : Conditional Slot S I) → IsCond slot_cmp old objects → (path inner : I) → IsInside old path objects.scope → ((c : List Bool) → new.test inner c ≡ true → old.test path c ≡ true) → IsInside new inner objects.scope
unfolding IsCond
objects_inside e objects v path inner i within = record { inside = λ c t. e.test objects.scope c v.scope_known ∙ i.inside c (within c t) }

pub objects_held : {S I : Type 0} {old new : Sets I} → Extends old new → (heap : HeapView S I) → IsHeap old heap → (objects : Conditional Slot S I) → IsCond slot_cmp old objects → (path inner : I) → ((c : List Bool) → new.test inner c ≡ true → old.test path c ≡ true) → AreObjectsHeld old heap path objects → AreObjectsHeld new heap inner objects
objects_held {old = old} {new = new} e heap h objects v path inner within held = record {
  object = λ c t. ap is_object (slot_later e objects v c) ∙ held.object c (within c t);
  held = λ c t. ap (is_held new heap c) (slot_later e objects v c) ∙ is_held-extends e heap h c (slot_at old objects c) ∙ held.held c (within c t);
}

-- ---- parts of a group

pub whole_part : {S I : Type 0} (sets : Sets I) (set : List Bool → Bool) (group : GroupView S I) → IsGroup sets group → ((c : List Bool) → sets.test (path_of group) c ≡ set c) → IsPartOf sets sets set group group
unfolding IsPartOf
whole_part sets set group v same = record { is_group = v; path = record { known = IsGroup-path_known sets group v; test = same }; below = refl; caller = refl; shape = refl; at = λ c t. refl }

-- a part of a part, for a set that says the same
pub part_of_part : {S I : Type 0} (s0 s1 s2 : Sets I) (set inner other : List Bool → Bool) (group rest part : GroupView S I) → IsPartOf s0 s1 set group rest → IsPartOf s1 s2 inner rest part → ((c : List Bool) → inner c ≡ true → s1.test (path_of rest) c ≡ true) → ((c : List Bool) → inner c ≡ other c) → IsPartOf s0 s2 other group part
unfolding IsPartOf
part_of_part s0 s1 s2 set inner other group rest part r p inside same = record {
  is_group = p.is_group;
  path = record { known = p.path.known; test = λ c. p.path.test c ∙ same c };
  below = p.below ∙ r.below;
  caller = p.caller ∙ r.caller;
  shape = p.shape ∙ r.shape;
  at = λ c t. p.at c t ∙ r.at c (inside c (sym (p.path.test c) ∙ t));
}

-- ---- outcomes in a part of a group's path, told of the group from which it goes on

pub CameTo-within : {S I : Type 0} {before : HeapView S I} {earlier : List (Option (Caller S I))} (p : Program) (s0 s1 s2 : Sets I) (heap : HeapView S I) (tree : List (Option (Caller S I))) (group middle : GroupView S I) (there what : List Bool → PlainOutcome) (set : List Bool → Bool) (xs : List (Outcome S I)) → Continues p s0 s1 before earlier group middle → ((c : List Bool) → set c ≡ true → there c ≡ what c) → CameTo p s1 s2 heap tree middle there set xs → CameTo p s0 s2 heap tree group what set xs
CameTo-within p s0 s1 s2 heap tree group middle there what set xs f h y = record {
  divide = y.divide;
  continue = AreOutcomes-through p s0 s1 s2 heap tree group middle xs f y.continue;
  at = λ c t. y.at c t ∙ ap Some (h c t);
}
