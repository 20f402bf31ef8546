-- A table with more texts changes nothing that stands in a heap.
use Rattle.std.proofs.Common.{◌≡◌, ℕ, Bool, true, false, List, [], ◌∷◌, refl, ap, map, length, filter, if◌then◌else◌}
use Rattle.std.specs.List.{list_all}
use Rattle.std.proofs.lemmas.Bool.{lt-ltb, ltb-true}
use Rattle.vx_value.specs.declared.slot.Slot.{Slot}
use Rattle.vx_value.specs.declared.slot.Slot.TheVariants.{Top, Int, Long, Null, Ref, Text}
use Rattle.vx_value.specs.Texts.{Extends}
use Rattle.vx_space.specs.Sets.{Sets}
use Rattle.vx_cond.specs.Cond.{Conditional}
use Rattle.vx_cond.specs.Slots.{slot_at}
use Rattle.vx_java.specs.Machine.{Text as TextValue}
use Rattle.vx_heap.specs.Cells.{cells_at}
use Rattle.vx_heap.specs.declared.object.HeapObject.{HeapObject}
use Rattle.vx_heap.specs.Heap.{HeapView, IsHeap, KeepsPlain, are_held, globals_at, is_held, object_holds, object_of, value_of}
use Rattle.vx_heap.proofs.Places.{both_true, and_true}

module _ {S I : Type 0} (heap : HeapView S I) (texts : List (List ℕ)) (more : Extends heap.texts texts) (sets : Sets I) (c : List Bool) where
  held_more : (slot : Slot) → is_held sets heap c slot ≡ true → is_held sets (record heap { texts = texts }) c slot ≡ true
  held_more Top h = refl
  held_more (Int n) h = refl
  held_more (Long n) h = refl
  held_more Null h = refl
  held_more (Ref i) h = h
  held_more (Text n) h = lt-ltb n (length texts) (more n (ltb-true n (length heap.texts) h)).known

  value_more : (slot : Slot) → is_held sets heap c slot ≡ true → value_of sets (record heap { texts = texts }) c slot ≡ value_of sets heap c slot
  value_more Top h = refl
  value_more (Int n) h = refl
  value_more (Long n) h = refl
  value_more Null h = refl
  value_more (Ref i) h = refl
  value_more (Text n) h = ap TextValue (more n (ltb-true n (length heap.texts) h)).text

  are_held_more : (slots : List Slot) → are_held sets heap c slots ≡ true → are_held sets (record heap { texts = texts }) c slots ≡ true
  are_held_more [] h = refl
  are_held_more (slot ∷ slots) h =
      let parts = both_true (is_held sets heap c slot) (are_held sets heap c slots) h in
      and_true (is_held sets (record heap { texts = texts }) c slot) (are_held sets (record heap { texts = texts }) c slots) (held_more slot parts.0) (are_held_more slots parts.1)

  values_more : (slots : List Slot) → are_held sets heap c slots ≡ true → map (value_of sets (record heap { texts = texts }) c) slots ≡ map (value_of sets heap c) slots
  values_more [] h = refl
  values_more (slot ∷ slots) h =
      let parts = both_true (is_held sets heap c slot) (are_held sets heap c slots) h in
      λ i. value_more slot parts.0 i ∷ values_more slots parts.1 i

  object_holds_more : (b : Bool) (slots : List Slot) → (if b then are_held sets heap c slots else true) ≡ true → (if b then are_held sets (record heap { texts = texts }) c slots else true) ≡ true
  object_holds_more true slots h = are_held_more slots h
  object_holds_more false slots h = refl

  objects_hold_more : (os : List (HeapObject S I)) → list_all (object_holds sets heap c) os ≡ true → list_all (object_holds sets (record heap { texts = texts }) c) os ≡ true
  objects_hold_more [] h = refl
  objects_hold_more (o ∷ os) h =
      let parts = both_true (object_holds sets heap c o) (list_all (object_holds sets heap c) os) h in
      and_true (object_holds sets (record heap { texts = texts }) c o) (list_all (object_holds sets (record heap { texts = texts }) c) os) (object_holds_more (sets.test o.presence c) (cells_at sets o.cells c) parts.0) (objects_hold_more os parts.1)

  objects_more : (os : List (HeapObject S I)) → list_all (object_holds sets heap c) os ≡ true → map (object_of sets (record heap { texts = texts }) c) (filter (λ o. sets.test o.presence c) os) ≡ map (object_of sets heap c) (filter (λ o. sets.test o.presence c) os)
  objects_more [] h = refl
  objects_more (o ∷ os) h =
      let parts = both_true (object_holds sets heap c o) (list_all (object_holds sets heap c) os) h in
      cases (sets.test o.presence c) (filter (λ p. sets.test p.presence c) os) parts.0 (objects_more os parts.1)
    where
      cases : (b : Bool) (ps : List (HeapObject S I)) → (if b then are_held sets heap c (cells_at sets o.cells c) else true) ≡ true → map (object_of sets (record heap { texts = texts }) c) ps ≡ map (object_of sets heap c) ps → map (object_of sets (record heap { texts = texts }) c) (if b then o ∷ ps else ps) ≡ map (object_of sets heap c) (if b then o ∷ ps else ps)
      cases true ps t e =
          let cells = values_more (cells_at sets o.cells c) t in
          λ i. record { class = o.class.0; size = o.length; cells = cells i } ∷ e i
      cases false ps t e = e

  statics_more : (xs : List (Conditional Slot S I)) → are_held sets heap c (map (λ cond. slot_at sets cond c) xs) ≡ true → map (λ cond. value_of sets (record heap { texts = texts }) c (slot_at sets cond c)) xs ≡ map (λ cond. value_of sets heap c (slot_at sets cond c)) xs
  statics_more [] h = refl
  statics_more (x ∷ xs) h =
      let parts = both_true (is_held sets heap c (slot_at sets x c)) (are_held sets heap c (map (λ cond. slot_at sets cond c) xs)) h in
      λ i. value_more (slot_at sets x c) parts.0 i ∷ statics_more xs parts.1 i

-- what `put_text` keeps
pub KeepsPlain-texts : {S I : Type 0} (heap : HeapView S I) (texts : List (List ℕ)) → Extends heap.texts texts → KeepsPlain heap (record heap { texts = texts })
unfolding IsHeap
KeepsPlain-texts heap texts more sets v = (
  record {
    allowed_known = v.allowed_known;
    objects = v.objects;
    statics = v.statics;
    inits = v.inits;
    objects_held = λ c. objects_hold_more heap texts more sets c heap.objects (v.objects_held c);
    statics_held = λ c. are_held_more heap texts more sets c (map (λ cond. slot_at sets cond c) heap.statics) (v.statics_held c);
  },
  λ c. λ i. record {
    objects = objects_more heap texts more sets c heap.objects (v.objects_held c) i;
    statics = statics_more heap texts more sets c heap.statics (v.statics_held c) i;
    inits = (globals_at sets heap c).inits;
  },
)
