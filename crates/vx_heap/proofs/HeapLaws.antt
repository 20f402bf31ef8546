-- Laws of heaps, for callers: what stays where a space is extended, or where the ids held keep their sets.
use Rattle.std.proofs.Common.{◌≡◌, ℕ, zero, suc, Bool, List, [], ◌∷◌, ◌++◌, ◌&&◌, refl, ◌∙◌, ap, map}
use Rattle.std.specs.Prelude.{slice_get, true, if◌then◌else◌}
use Rattle.std.specs.List.{flat_map, list_all}
use Rattle.vx_value.specs.declared.slot.Slot.{Slot}
use Rattle.vx_value.specs.declared.slot.Slot.TheVariants.{Top, Int, Long, Null, Ref, Text}
use Rattle.vx_value.specs.Slot.{slot_cmp, init_state_cmp}
use Rattle.vx_space.specs.Sets.{Sets, AreKept, AreKnown, Extends}
use Rattle.vx_cond.specs.Cond.{Conditional, cond_ids}
use Rattle.vx_cond.specs.Row.{IsRow}
use Rattle.vx_cond.specs.Slots.{or_top, slot_at}
use Rattle.vx_cond.specs.Keeping.{cond_at-kept, AreKept-append_left, AreKept-append_right}
use Rattle.vx_cond.proofs.RowLaws.{IsCond-kept, IsRow-kept}
use Rattle.vx_heap.specs.Cells.{AreCells, IsCell, cell_ids, cells_at}
use Rattle.vx_heap.specs.declared.cell_list.Cell.{Cell}
use Rattle.vx_heap.specs.declared.cell_list.Cell.TheVariants.{Differs, Plain}
use Rattle.vx_heap.specs.declared.object.HeapObject.{HeapObject}
use Rattle.vx_heap.specs.Heap.{AreObjects, HeapView, IsHeap, are_held, globals_at, heap_ids, is_held, is_object_held, name_at, object_holds, object_ids, value_of}
use Rattle.vx_heap.specs.Keeping.{cells_at-kept, globals_at-kept, inits_kept, name_at-kept, objects_kept, statics_kept, value_of-kept}
use Rattle.vx_heap.proofs.Known.{AreKept-extends, AreKnown-append, cond_known, conds_known}

list_all-same : {A : Type 0} (p q : A → Bool) → ((x : A) → p x ≡ q x) → (xs : List A) → list_all p xs ≡ list_all q xs
list_all-same p q h [] = refl
list_all-same p q h (x ∷ xs) = λ i. h x i && list_all-same p q h xs i

-- ---- kept ids

object_held-kept : {S I : Type 0} (old new : Sets I) (os : List (HeapObject S I)) (c : List Bool) → AreKept old new (flat_map object_ids os) → (i : ℕ) → is_object_held new c (slice_get os i) ≡ is_object_held old c (slice_get os i)
object_held-kept old new [] c k i = refl
object_held-kept old new (o ∷ os) c k zero = (AreKept-append_left old new (object_ids o) (flat_map object_ids os) k).0.test c
object_held-kept old new (o ∷ os) c k (suc i) = object_held-kept old new os c (AreKept-append_right old new (object_ids o) (flat_map object_ids os) k) i

pub is_held-kept : {S I : Type 0} (old new : Sets I) (heap : HeapView S I) (c : List Bool) → AreKept old new (heap_ids heap) → (slot : Slot) → is_held new heap c slot ≡ is_held old heap c slot
is_held-kept old new heap c k Top = refl
is_held-kept old new heap c k (Int n) = refl
is_held-kept old new heap c k (Long n) = refl
is_held-kept old new heap c k Null = refl
is_held-kept old new heap c k (Ref i) = object_held-kept old new heap.objects c (objects_kept old new heap k) i
is_held-kept old new heap c k (Text n) = refl

are_held-kept : {S I : Type 0} (old new : Sets I) (heap : HeapView S I) (c : List Bool) → AreKept old new (heap_ids heap) → (slots : List Slot) → are_held new heap c slots ≡ are_held old heap c slots
are_held-kept old new heap c k slots = list_all-same (is_held new heap c) (is_held old heap c) (is_held-kept old new heap c k) slots

object_holds-kept : {S I : Type 0} (old new : Sets I) (heap : HeapView S I) (c : List Bool) → AreKept old new (heap_ids heap) → (o : HeapObject S I) → AreKept old new (object_ids o) → object_holds new heap c o ≡ object_holds old heap c o
object_holds-kept old new heap c k o ko =
    let slots = are_held-kept old new heap c k (cells_at new o.cells c) ∙ ap (λ slots. are_held old heap c slots) (cells_at-kept old new o.cells c ko.1) in
    (λ i. if ko.0.test c i then slots i else true)

objects_hold-kept : {S I : Type 0} (old new : Sets I) (heap : HeapView S I) (c : List Bool) → AreKept old new (heap_ids heap) → (os : List (HeapObject S I)) → AreKept old new (flat_map object_ids os) → list_all (object_holds new heap c) os ≡ list_all (object_holds old heap c) os
objects_hold-kept old new heap c k [] ks = refl
objects_hold-kept old new heap c k (o ∷ os) ks =
    let here = object_holds-kept old new heap c k o (AreKept-append_left old new (object_ids o) (flat_map object_ids os) ks) in
    let rest = objects_hold-kept old new heap c k os (AreKept-append_right old new (object_ids o) (flat_map object_ids os) ks) in
    λ i. here i && rest i

static_slots-kept : {S I : Type 0} (old new : Sets I) (c : List Bool) (xs : List (Conditional Slot S I)) → AreKept old new (flat_map cond_ids xs) → map (λ cond. slot_at new cond c) xs ≡ map (λ cond. slot_at old cond c) xs
static_slots-kept old new c [] ks = refl
static_slots-kept old new c (x ∷ xs) ks =
    let here = ap or_top (cond_at-kept old new x c (AreKept-append_left old new (cond_ids x) (flat_map cond_ids xs) ks)) in
    let rest = static_slots-kept old new c xs (AreKept-append_right old new (cond_ids x) (flat_map cond_ids xs) ks) in
    λ i. here i ∷ rest i

IsCell-kept : {S I : Type 0} (old new : Sets I) → new.never ≡ old.never → (presence : I) (x : Cell S I) → AreKept old new (cell_ids x) → IsCell old presence x → IsCell new presence x
IsCell-kept old new n presence (Plain slot) k h = tt
IsCell-kept old new n presence (Differs cond) k h = (IsCond-kept slot_cmp n cond.value k h.0, h.1)

AreCells-kept : {S I : Type 0} (old new : Sets I) → new.never ≡ old.never → (presence : I) (xs : List (Cell S I)) → AreKept old new (flat_map cell_ids xs) → AreCells old presence xs → AreCells new presence xs
AreCells-kept old new n presence [] k h = tt
AreCells-kept old new n presence (x ∷ xs) k h = (
  IsCell-kept old new n presence x (AreKept-append_left old new (cell_ids x) (flat_map cell_ids xs) k) h.0,
  AreCells-kept old new n presence xs (AreKept-append_right old new (cell_ids x) (flat_map cell_ids xs) k) h.1,
)

AreObjects-kept : {S I : Type 0} (old new : Sets I) → new.never ≡ old.never → (os : List (HeapObject S I)) → AreKept old new (flat_map object_ids os) → AreObjects old os → AreObjects new os
AreObjects-kept old new n [] ks h = tt
AreObjects-kept old new n (o ∷ os) ks h =
    let here = AreKept-append_left old new (object_ids o) (flat_map object_ids os) ks in (
      record { known = here.0.known; cells = AreCells-kept old new n o.presence o.cells here.1 h.0.cells; short = h.0.short; sized = h.0.sized },
      AreObjects-kept old new n os (AreKept-append_right old new (object_ids o) (flat_map object_ids os) ks) h.1,
    )

-- a heap stays one where the ids that it holds keep their sets
pub IsHeap-kept : {S I : Type 0} {old new : Sets I} → new.never ≡ old.never → (heap : HeapView S I) → AreKept old new (heap_ids heap) → IsHeap old heap → IsHeap new heap
unfolding IsHeap IsRow
IsHeap-kept {old = old} {new = new} n heap k v = record {
  allowed_known = k.0.known;
  objects = AreObjects-kept old new n heap.objects (objects_kept old new heap k) v.objects;
  statics = (IsRow-kept slot_cmp n (record { scope = heap.allowed; conds = heap.statics }) (k.0, statics_kept old new heap k) (record { scope_known = v.allowed_known; conds = v.statics })).conds;
  inits = (IsRow-kept init_state_cmp n (record { scope = heap.allowed; conds = heap.inits }) (k.0, inits_kept old new heap k) (record { scope_known = v.allowed_known; conds = v.inits })).conds;
  objects_held = λ c. objects_hold-kept old new heap c k heap.objects (objects_kept old new heap k) ∙ v.objects_held c;
  statics_held = λ c. are_held-kept old new heap c k (map (λ cond. slot_at new cond c) heap.statics) ∙ ap (λ slots. are_held old heap c slots) (static_slots-kept old new c heap.statics (statics_kept old new heap k)) ∙ v.statics_held c;
}

-- ---- known ids

cell_known : {S I : Type 0} (sets : Sets I) (presence : I) (x : Cell S I) → IsCell sets presence x → AreKnown sets (cell_ids x)
cell_known sets presence (Plain slot) h = tt
cell_known sets presence (Differs cond) h = cond_known slot_cmp sets cond.value h.0

pub cells_known : {S I : Type 0} (sets : Sets I) (presence : I) (xs : List (Cell S I)) → AreCells sets presence xs → AreKnown sets (flat_map cell_ids xs)
cells_known sets presence [] h = tt
cells_known sets presence (x ∷ xs) h = AreKnown-append sets (cell_ids x) (flat_map cell_ids xs) (cell_known sets presence x h.0) (cells_known sets presence xs h.1)

-- the cells of an object over a later space
pub AreCells-extends : {S I : Type 0} {old new : Sets I} → Extends old new → (presence : I) (xs : List (Cell S I)) → AreCells old presence xs → AreCells new presence xs
AreCells-extends {old = old} {new = new} e presence xs h = AreCells-kept old new e.never presence xs (AreKept-extends e (flat_map cell_ids xs) (cells_known old presence xs h)) h

pub cells_at-extends : {S I : Type 0} {old new : Sets I} → Extends old new → (presence : I) (xs : List (Cell S I)) → AreCells old presence xs → (c : List Bool) → cells_at new xs c ≡ cells_at old xs c
cells_at-extends {old = old} {new = new} e presence xs h c = cells_at-kept old new xs c (AreKept-extends e (flat_map cell_ids xs) (cells_known old presence xs h))

objects_known : {S I : Type 0} (sets : Sets I) (os : List (HeapObject S I)) → AreObjects sets os → AreKnown sets (flat_map object_ids os)
objects_known sets [] h = tt
objects_known sets (o ∷ os) h =
    AreKnown-append sets (object_ids o) (flat_map object_ids os) (h.0.known, cells_known sets o.presence o.cells h.0.cells) (objects_known sets os h.1)

-- the ids that a heap holds are known
pub heap_known : {S I : Type 0} (sets : Sets I) (heap : HeapView S I) → IsHeap sets heap → AreKnown sets (heap_ids heap)
unfolding IsHeap
heap_known sets heap v = (
  v.allowed_known,
  AreKnown-append sets (flat_map object_ids heap.objects) (flat_map cond_ids heap.statics ++ flat_map cond_ids heap.inits)
      (objects_known sets heap.objects v.objects)
      (AreKnown-append sets (flat_map cond_ids heap.statics) (flat_map cond_ids heap.inits) (conds_known slot_cmp sets heap.allowed heap.statics v.statics) (conds_known init_state_cmp sets heap.allowed heap.inits v.inits)),
)

heap_kept : {S I : Type 0} {old new : Sets I} → Extends old new → (heap : HeapView S I) → IsHeap old heap → AreKept old new (heap_ids heap)
heap_kept {old = old} e heap v = AreKept-extends e (heap_ids heap) (heap_known old heap v)

-- ---- an extended space

pub IsHeap-extends : {S I : Type 0} {old new : Sets I} → Extends old new → (heap : HeapView S I) → IsHeap old heap → IsHeap new heap
IsHeap-extends e heap v = IsHeap-kept e.never heap (heap_kept e heap v) v

pub globals_at-extends : {S I : Type 0} {old new : Sets I} → Extends old new → (heap : HeapView S I) → IsHeap old heap → (c : List Bool) → globals_at new heap c ≡ globals_at old heap c
globals_at-extends {old = old} {new = new} e heap v c = globals_at-kept old new heap c (heap_kept e heap v)

pub value_of-extends : {S I : Type 0} {old new : Sets I} → Extends old new → (heap : HeapView S I) → IsHeap old heap → (c : List Bool) (slot : Slot) → value_of new heap c slot ≡ value_of old heap c slot
value_of-extends {old = old} {new = new} e heap v c slot = value_of-kept old new heap c (heap_kept e heap v) slot

pub name_at-extends : {S I : Type 0} {old new : Sets I} → Extends old new → (heap : HeapView S I) → IsHeap old heap → (c : List Bool) (i : ℕ) → name_at new heap.objects c i ≡ name_at old heap.objects c i
name_at-extends {old = old} {new = new} e heap v c i = name_at-kept old new heap.objects c (objects_kept old new heap (heap_kept e heap v)) i

pub is_held-extends : {S I : Type 0} {old new : Sets I} → Extends old new → (heap : HeapView S I) → IsHeap old heap → (c : List Bool) (slot : Slot) → is_held new heap c slot ≡ is_held old heap c slot
is_held-extends {old = old} {new = new} e heap v c slot = is_held-kept old new heap c (heap_kept e heap v) slot

pub are_held-extends : {S I : Type 0} {old new : Sets I} → Extends old new → (heap : HeapView S I) → IsHeap old heap → (c : List Bool) (slots : List Slot) → are_held new heap c slots ≡ are_held old heap c slots
are_held-extends {old = old} {new = new} e heap v c slots = are_held-kept old new heap c (heap_kept e heap v) slots
