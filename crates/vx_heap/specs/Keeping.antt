-- The law of keeping, for the heap.
use Rattle.std.specs.Prelude.{◌≡◌, ℕ, zero, suc, Bool, true, false, List, [], ◌∷◌, ◌++◌, map, filter, unwrap_or, if◌then◌else◌, refl}
use Rattle.std.specs.List.{flat_map}
use Rattle.std.proofs.Common.{ap, ◌∙◌}
use Rattle.vx_value.specs.declared.slot.Slot.{Slot}
use Rattle.vx_value.specs.declared.slot.Slot.TheVariants.{Top, Int, Long, Null, Ref, Text}
use Rattle.vx_value.specs.declared.slot.InitState.{InitState}
use Rattle.vx_value.specs.declared.slot.InitState.TheVariants.{Done}
use Rattle.vx_space.specs.Sets.{Sets, AreKept}
use Rattle.vx_cond.specs.Cond.{Conditional, cond_at, cond_ids}
use Rattle.vx_cond.specs.Slots.{or_top, slot_at}
use Rattle.vx_cond.specs.Keeping.{cond_at-kept, AreKept-append_left, AreKept-append_right}
use Rattle.vx_java.specs.Machine.{Ref as RefValue}
use Rattle.vx_heap.specs.Cells.{cell_ids, cell_slot, cells_at}
use Rattle.vx_heap.specs.declared.cell_list.Cell.{Cell}
use Rattle.vx_heap.specs.declared.cell_list.Cell.TheVariants.{Differs, Plain}
use Rattle.vx_heap.specs.declared.object.HeapObject.{HeapObject}
use Rattle.vx_heap.specs.Heap.{HeapView, globals_at, heap_ids, name_at, object_ids, object_of, value_of}

-- two functions that agree give one list
pub map-same : {A B : Type 0} (f g : A → B) → ((x : A) → f x ≡ g x) → (xs : List A) → map f xs ≡ map g xs
map-same f g h [] = refl
map-same f g h (x ∷ xs) = λ i. h x i ∷ map-same f g h xs i

pub name_at-kept : {S I : Type 0} (old new : Sets I) (os : List (HeapObject S I)) (c : List Bool) → AreKept old new (flat_map object_ids os) → (i : ℕ) → name_at new os c i ≡ name_at old os c i
name_at-kept old new [] c k i = refl
name_at-kept old new (o ∷ os) c k zero = refl
name_at-kept old new (o ∷ os) c k (suc i) =
    let here = AreKept-append_left old new (object_ids o) (flat_map object_ids os) k in
    let later = name_at-kept old new os c (AreKept-append_right old new (object_ids o) (flat_map object_ids os) k) i in
    rw (here.0.test c, later) refl

-- the ids of each part
pub objects_kept : {S I : Type 0} (old new : Sets I) (heap : HeapView S I) → AreKept old new (heap_ids heap) → AreKept old new (flat_map object_ids heap.objects)
objects_kept old new heap k = AreKept-append_left old new (flat_map object_ids heap.objects) (flat_map cond_ids heap.statics ++ flat_map cond_ids heap.inits) k.1

pub statics_kept : {S I : Type 0} (old new : Sets I) (heap : HeapView S I) → AreKept old new (heap_ids heap) → AreKept old new (flat_map cond_ids heap.statics)
statics_kept old new heap k =
    AreKept-append_left old new (flat_map cond_ids heap.statics) (flat_map cond_ids heap.inits)
    (AreKept-append_right old new (flat_map object_ids heap.objects) (flat_map cond_ids heap.statics ++ flat_map cond_ids heap.inits) k.1)

pub inits_kept : {S I : Type 0} (old new : Sets I) (heap : HeapView S I) → AreKept old new (heap_ids heap) → AreKept old new (flat_map cond_ids heap.inits)
inits_kept old new heap k =
    AreKept-append_right old new (flat_map cond_ids heap.statics) (flat_map cond_ids heap.inits)
    (AreKept-append_right old new (flat_map object_ids heap.objects) (flat_map cond_ids heap.statics ++ flat_map cond_ids heap.inits) k.1)

pub value_of-kept : {S I : Type 0} (old new : Sets I) (heap : HeapView S I) (c : List Bool) → AreKept old new (heap_ids heap) → (slot : Slot) → value_of new heap c slot ≡ value_of old heap c slot
value_of-kept old new heap c k Top = refl
value_of-kept old new heap c k (Int n) = refl
value_of-kept old new heap c k (Long n) = refl
value_of-kept old new heap c k Null = refl
value_of-kept old new heap c k (Ref i) = ap RefValue (name_at-kept old new heap.objects c (objects_kept old new heap k) i)
value_of-kept old new heap c k (Text n) = refl

pub cell_slot-kept : {S I : Type 0} (old new : Sets I) (cell : Cell S I) (c : List Bool) → AreKept old new (cell_ids cell) → cell_slot new c cell ≡ cell_slot old c cell
cell_slot-kept old new (Plain slot) c k = refl
cell_slot-kept old new (Differs cond) c k = ap or_top (cond_at-kept old new cond.value c k)

pub cells_at-kept : {S I : Type 0} (old new : Sets I) (cells : List (Cell S I)) (c : List Bool) → AreKept old new (flat_map cell_ids cells) → cells_at new cells c ≡ cells_at old cells c
cells_at-kept old new [] c k = refl
cells_at-kept old new (x ∷ xs) c k =
    let here = cell_slot-kept old new x c (AreKept-append_left old new (cell_ids x) (flat_map cell_ids xs) k) in
    let rest = cells_at-kept old new xs c (AreKept-append_right old new (cell_ids x) (flat_map cell_ids xs) k) in
    λ i. here i ∷ rest i

object_of-kept : {S I : Type 0} (old new : Sets I) (heap : HeapView S I) (c : List Bool) → AreKept old new (heap_ids heap) → (o : HeapObject S I) → AreKept old new (object_ids o) → object_of new heap c o ≡ object_of old heap c o
object_of-kept old new heap c k o ko =
    let cells = map-same (value_of new heap c) (value_of old heap c) (value_of-kept old new heap c k) (cells_at new o.cells c) ∙ ap (λ slots. map (value_of old heap c) slots) (cells_at-kept old new o.cells c ko.1) in
    λ i. record { class = o.class.0; size = o.length; cells = cells i }

objects_at-kept : {S I : Type 0} (old new : Sets I) (heap : HeapView S I) (c : List Bool) → AreKept old new (heap_ids heap) → (os : List (HeapObject S I)) → AreKept old new (flat_map object_ids os) → map (object_of new heap c) (filter (λ o. new.test o.presence c) os) ≡ map (object_of old heap c) (filter (λ o. old.test o.presence c) os)
objects_at-kept old new heap c k [] ks = refl
objects_at-kept {S = S} {I = I} old new heap c k (o ∷ os) ks =
    let here = AreKept-append_left old new (object_ids o) (flat_map object_ids os) ks in
    let rest = objects_at-kept old new heap c k os (AreKept-append_right old new (object_ids o) (flat_map object_ids os) ks) in
    ap (λ b. map (object_of new heap c) (if b then o ∷ filter (λ o. new.test o.presence c) os else filter (λ o. new.test o.presence c) os)) (here.0.test c)
    ∙ cases (old.test o.presence c) (filter (λ o. new.test o.presence c) os) (filter (λ o. old.test o.presence c) os) (object_of-kept old new heap c k o here) rest
  where
    cases : (b : Bool) (ps qs : List (HeapObject S I)) → object_of new heap c o ≡ object_of old heap c o → map (object_of new heap c) ps ≡ map (object_of old heap c) qs → map (object_of new heap c) (if b then o ∷ ps else ps) ≡ map (object_of old heap c) (if b then o ∷ qs else qs)
    cases true ps qs e r = λ i. e i ∷ r i
    cases false ps qs e r = r

static_values-kept : {S I : Type 0} (old new : Sets I) (heap : HeapView S I) (c : List Bool) → AreKept old new (heap_ids heap) → (xs : List (Conditional Slot S I)) → AreKept old new (flat_map cond_ids xs) → map (λ cond. value_of new heap c (slot_at new cond c)) xs ≡ map (λ cond. value_of old heap c (slot_at old cond c)) xs
static_values-kept old new heap c k [] ks = refl
static_values-kept old new heap c k (x ∷ xs) ks =
    let here = cond_at-kept old new x c (AreKept-append_left old new (cond_ids x) (flat_map cond_ids xs) ks) in
    let value = value_of-kept old new heap c k (slot_at new x c) ∙ ap (λ v. value_of old heap c (or_top v)) here in
    let rest = static_values-kept old new heap c k xs (AreKept-append_right old new (cond_ids x) (flat_map cond_ids xs) ks) in
    λ i. value i ∷ rest i

init_states-kept : {S I : Type 0} (old new : Sets I) (c : List Bool) (xs : List (Conditional InitState S I)) → AreKept old new (flat_map cond_ids xs) → map (λ cond. unwrap_or (cond_at new cond c) Done) xs ≡ map (λ cond. unwrap_or (cond_at old cond c) Done) xs
init_states-kept old new c [] ks = refl
init_states-kept old new c (x ∷ xs) ks =
    let here = ap (λ v. unwrap_or v Done) (cond_at-kept old new x c (AreKept-append_left old new (cond_ids x) (flat_map cond_ids xs) ks)) in
    let rest = init_states-kept old new c xs (AreKept-append_right old new (cond_ids x) (flat_map cond_ids xs) ks) in
    λ i. here i ∷ rest i

-- over two spaces in which each id held has the same set, the same stands at each configuration
pub globals_at-kept : {S I : Type 0} (old new : Sets I) (heap : HeapView S I) (c : List Bool) → AreKept old new (heap_ids heap) → globals_at new heap c ≡ globals_at old heap c
globals_at-kept old new heap c k =
    let objects = objects_at-kept old new heap c k heap.objects (objects_kept old new heap k) in
    let statics = static_values-kept old new heap c k heap.statics (statics_kept old new heap k) in
    let inits = init_states-kept old new c heap.inits (inits_kept old new heap k) in
    λ i. record { objects = objects i; statics = statics i; inits = inits i }
