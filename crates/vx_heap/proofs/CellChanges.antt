-- What writing a cell makes of a heap.
use Rattle.std.proofs.Common.{◌≡◌, ℕ, zero, suc, ◌<◌, Bool, true, false, List, [], ◌∷◌, ◌&&◌, refl, sym, ◌∙◌, ap, map, length, filter, take, get_or, arith, subst, if◌then◌else◌}
use Rattle.std.proofs.Math.ListN.{set, length-set}
use Rattle.std.proofs.lemmas.List.{map-set}
use Rattle.std.specs.List.{list_all}
use Rattle.std.specs.Prelude.{Some, slice_get}
use Rattle.vx_list.specs.Places.{item_or}
use Rattle.vx_value.specs.declared.slot.Slot.{Slot}
use Rattle.vx_value.specs.declared.slot.Slot.TheVariants.{Top, Int, Long, Null, Ref, Text}
use Rattle.vx_value.specs.Slot.{slot_cmp}
use Rattle.vx_space.specs.Sets.{Sets, Extends}
use Rattle.vx_cond.specs.Cond.{Conditional, IsCond, IsInside}
use Rattle.vx_cond.specs.Slots.{slot_at}
use Rattle.vx_java.specs.FirstObjects.{first_words}
use Rattle.vx_java.specs.Machine.{Object, no_object}
use Rattle.vx_java.specs.Machine.{Ref as RefValue}
use Rattle.vx_heap.specs.Cells.{AreWritten, cells_at}
use Rattle.vx_heap.specs.Changing.{IsCellWritten, IsValueHeld, with_cell_of}
use Rattle.vx_heap.specs.declared.cell_list.Cell.{Cell}
use Rattle.vx_heap.specs.declared.object.HeapObject.{HeapObject}
use Rattle.vx_heap.specs.Heap.{AreEverywhere, AreObjects, HeapView, IsHeap, IsObject, are_held, count_if, globals_at, is_held, is_object_held, name_at, object_holds, object_in, object_of, objects_at, value_of}
use Rattle.vx_heap.proofs.Cells.{holds_in, is_object_in, named, object_there}
use Rattle.vx_heap.proofs.CellWrites.{set_same}
use Rattle.vx_heap.proofs.HeapLaws.{IsHeap-extends, globals_at-extends, is_held-extends, name_at-extends, value_of-extends}
use Rattle.vx_heap.proofs.Places.{and_true, both_true}

-- ---- an object with other cells in the place of one

module _ {S I : Type 0} (o : HeapObject S I) (cells : List (Cell S I)) where
  abbrev changed : HeapObject S I
  changed = record o { cells = cells }

  name_at-set : (sets : Sets I) (os : List (HeapObject S I)) (r : ℕ) → r < length os → o ≡ get_or os r o → (c : List Bool) (i : ℕ) → name_at sets (set os r changed) c i ≡ name_at sets os c i
  name_at-set sets [] r l e c i = refl
  name_at-set sets (x ∷ xs) zero l e c zero = refl
  name_at-set sets (x ∷ xs) zero l e c (suc i) = ap (λ (p : HeapObject S I). count_if (sets.test p.presence c) (name_at sets xs c i)) e
  name_at-set sets (x ∷ xs) (suc r) l e c zero = refl
  name_at-set sets (x ∷ xs) (suc r) l e c (suc i) = ap (count_if (sets.test x.presence c)) (name_at-set sets xs r (omega (arith, l)) e c i)

  held-set : (sets : Sets I) (os : List (HeapObject S I)) (r : ℕ) → r < length os → o ≡ get_or os r o → (c : List Bool) (i : ℕ) → is_object_held sets c (slice_get (set os r changed) i) ≡ is_object_held sets c (slice_get os i)
  held-set sets [] r l e c i = refl
  held-set sets (x ∷ xs) zero l e c zero = ap (λ (p : HeapObject S I). sets.test p.presence c) e
  held-set sets (x ∷ xs) zero l e c (suc i) = refl
  held-set sets (x ∷ xs) (suc r) l e c zero = refl
  held-set sets (x ∷ xs) (suc r) l e c (suc i) = held-set sets xs r (omega (arith, l)) e c i

  kept-set : (os : List (HeapObject S I)) (r : ℕ) → r < length os → o ≡ get_or os r o → (i : ℕ) (x : HeapObject S I) → slice_get os i ≡ Some x → (later : HeapObject S I) × (slice_get (set os r changed) i ≡ Some later) × (later.presence ≡ x.presence)
  kept-set [] r l e i x h = cc h
  kept-set (y ∷ ys) zero l e zero x h = (changed, refl, ap (λ (p : HeapObject S I). p.presence) e ∙ same y x h)
    where
      same : (a b : HeapObject S I) → Some a ≡ Some b → a.presence ≡ b.presence
      same a b q = cc q
  kept-set (y ∷ ys) zero l e (suc i) x h = (x, h, refl)
  kept-set (y ∷ ys) (suc r) l e zero x h = (x, h, refl)
  kept-set (y ∷ ys) (suc r) l e (suc i) x h = kept-set ys r (omega (arith, l)) e i x h

  everywhere-set : (allowed : I) (n : ℕ) (os : List (HeapObject S I)) (r : ℕ) → r < length os → o ≡ get_or os r o → AreEverywhere allowed (take n os) → AreEverywhere allowed (take n (set os r changed))
  everywhere-set allowed zero os r l e h = tt
  everywhere-set allowed (suc n) [] r l e h = tt
  everywhere-set allowed (suc n) (x ∷ xs) zero l e h = (ap (λ (p : HeapObject S I). p.presence) e ∙ h.0, h.1)
  everywhere-set allowed (suc n) (x ∷ xs) (suc r) l e h = (h.0, everywhere-set allowed n xs r (omega (arith, l)) e h.1)

  AreObjects-set : (sets : Sets I) (os : List (HeapObject S I)) (r : ℕ) → AreObjects sets os → IsObject sets changed → AreObjects sets (set os r changed)
  AreObjects-set sets [] r h k = tt
  AreObjects-set sets (x ∷ xs) zero h k = (k, h.1)
  AreObjects-set sets (x ∷ xs) (suc r) h k = (h.0, AreObjects-set sets xs r h.1 k)

  -- where the object is there, it stands at its name
  objects-set : (sets : Sets I) (f : HeapObject S I → Object) (os : List (HeapObject S I)) (r : ℕ) (c : List Bool) → r < length os → o ≡ get_or os r o → sets.test o.presence c ≡ true → map f (filter (λ x. sets.test x.presence c) (set os r changed)) ≡ set (map f (filter (λ x. sets.test x.presence c) os)) (name_at sets os c r) (f changed)
  objects-set sets f [] r c l e t = absurd (omega (arith, l))
  objects-set sets f (x ∷ xs) zero c l e t =
      ap (λ b. map f (if b then changed ∷ filter (λ x. sets.test x.presence c) xs else filter (λ x. sets.test x.presence c) xs)) t
      ∙ sym (ap (λ b. set (map f (if b then x ∷ filter (λ x. sets.test x.presence c) xs else filter (λ x. sets.test x.presence c) xs)) 0 (f changed)) (ap (λ (p : HeapObject S I). sets.test p.presence c) (sym e) ∙ t))
  objects-set sets f (x ∷ xs) (suc r) c l e t =
      cases (sets.test x.presence c) (filter (λ x. sets.test x.presence c) (set xs r changed)) (filter (λ x. sets.test x.presence c) xs) (name_at sets xs c r) (objects-set sets f xs r c (omega (arith, l)) e t)
    where
      cases : (b : Bool) (ps qs : List (HeapObject S I)) (n : ℕ) → map f ps ≡ set (map f qs) n (f changed) → map f (if b then x ∷ ps else ps) ≡ set (map f (if b then x ∷ qs else qs)) (count_if b n) (f changed)
      cases true ps qs n q = ap (λ zs. f x ∷ zs) q
      cases false ps qs n q = q

  -- and where it isn't, nothing of it does
  objects-absent : (sets : Sets I) (f : HeapObject S I → Object) (os : List (HeapObject S I)) (r : ℕ) (c : List Bool) → r < length os → o ≡ get_or os r o → sets.test o.presence c ≡ false → map f (filter (λ x. sets.test x.presence c) (set os r changed)) ≡ map f (filter (λ x. sets.test x.presence c) os)
  objects-absent sets f [] r c l e t = refl
  objects-absent sets f (x ∷ xs) zero c l e t =
      ap (λ b. map f (if b then changed ∷ filter (λ x. sets.test x.presence c) xs else filter (λ x. sets.test x.presence c) xs)) t
      ∙ sym (ap (λ b. map f (if b then x ∷ filter (λ x. sets.test x.presence c) xs else filter (λ x. sets.test x.presence c) xs)) (ap (λ (p : HeapObject S I). sets.test p.presence c) (sym e) ∙ t))
  objects-absent sets f (x ∷ xs) (suc r) c l e t =
      cases (sets.test x.presence c) (filter (λ x. sets.test x.presence c) (set xs r changed)) (filter (λ x. sets.test x.presence c) xs) (objects-absent sets f xs r c (omega (arith, l)) e t)
    where
      cases : (b : Bool) (ps qs : List (HeapObject S I)) → map f ps ≡ map f qs → map f (if b then x ∷ ps else ps) ≡ map f (if b then x ∷ qs else qs)
      cases true ps qs q = ap (λ zs. f x ∷ zs) q
      cases false ps qs q = q

all_same : {A : Type 0} (p q : A → Bool) → ((x : A) → q x ≡ p x) → (xs : List A) → list_all q xs ≡ list_all p xs
all_same p q h [] = refl
all_same p q h (x ∷ xs) = λ i. h x i && all_same p q h xs i

passes_set : {A : Type 0} (p : A → Bool) (xs : List A) (i : ℕ) (y : A) → list_all p xs ≡ true → p y ≡ true → list_all p (set xs i y) ≡ true
passes_set p [] i y h k = refl
passes_set p (x ∷ xs) zero y h k = and_true (p y) (list_all p xs) k (both_true (p x) (list_all p xs) h).1
passes_set p (x ∷ xs) (suc i) y h k = let parts = both_true (p x) (list_all p xs) h in and_true (p x) (list_all p (set xs i y)) parts.0 (passes_set p xs i y parts.1 k)

-- ---- the heap

module _ {S I : Type 0} (sets : Sets I) (heap : HeapView S I) (r : ℕ) (o : HeapObject S I) (cells : List (Cell S I)) (l : r < length heap.objects) (e : o ≡ get_or heap.objects r o) where
  abbrev later : HeapView S I
  later = record heap { objects = set heap.objects r (changed o cells) }

  value_same : (c : List Bool) (slot : Slot) → value_of sets later c slot ≡ value_of sets heap c slot
  value_same c Top = refl
  value_same c (Int n) = refl
  value_same c (Long n) = refl
  value_same c Null = refl
  value_same c (Ref i) = ap RefValue (name_at-set o cells sets heap.objects r l e c i)
  value_same c (Text n) = refl

  held_same : (c : List Bool) (slot : Slot) → is_held sets later c slot ≡ is_held sets heap c slot
  held_same c Top = refl
  held_same c (Int n) = refl
  held_same c (Long n) = refl
  held_same c Null = refl
  held_same c (Ref i) = held-set o cells sets heap.objects r l e c i
  held_same c (Text n) = refl

  values_same : (c : List Bool) (slots : List Slot) → map (value_of sets later c) slots ≡ map (value_of sets heap c) slots
  values_same c [] = refl
  values_same c (slot ∷ slots) = λ i. value_same c slot i ∷ values_same c slots i

  are_held_same : (c : List Bool) (slots : List Slot) → are_held sets later c slots ≡ are_held sets heap c slots
  are_held_same c slots = all_same (is_held sets heap c) (is_held sets later c) (held_same c) slots

  object_same : (c : List Bool) (x : HeapObject S I) → object_of sets later c x ≡ object_of sets heap c x
  object_same c x = let cells = values_same c (cells_at sets x.cells c) in λ i. record { class = x.class.0; size = x.length; cells = cells i }

  objects_same : (c : List Bool) (os : List (HeapObject S I)) → map (object_of sets later c) os ≡ map (object_of sets heap c) os
  objects_same c [] = refl
  objects_same c (x ∷ xs) = λ i. object_same c x i ∷ objects_same c xs i

  holds_same : (c : List Bool) (x : HeapObject S I) → object_holds sets later c x ≡ object_holds sets heap c x
  holds_same c x = let slots = are_held_same c (cells_at sets x.cells c) in λ i. if sets.test x.presence c then slots i else true

  statics_same : (c : List Bool) (xs : List (Conditional Slot S I)) → map (λ cond. value_of sets later c (slot_at sets cond c)) xs ≡ map (λ cond. value_of sets heap c (slot_at sets cond c)) xs
  statics_same c [] = refl
  statics_same c (x ∷ xs) = λ i. value_same c (slot_at sets x c) i ∷ statics_same c xs i

  -- where the object has these slots, the heap has them
  later_is_heap : IsHeap sets heap → IsObject sets (changed o cells) → ((c : List Bool) → object_holds sets heap c (changed o cells) ≡ true) → IsHeap sets later
  unfolding IsHeap
  later_is_heap v k holds = record {
    allowed_known = v.allowed_known;
    objects = AreObjects-set o cells sets heap.objects r v.objects k;
    statics = v.statics;
    inits = v.inits;
    objects_held = λ c. all_same (object_holds sets heap c) (object_holds sets later c) (holds_same c) (set heap.objects r (changed o cells)) ∙ passes_set (object_holds sets heap c) heap.objects r (changed o cells) (v.objects_held c) (holds c);
    statics_held = λ c. are_held_same c (map (λ cond. slot_at sets cond c) heap.statics) ∙ v.statics_held c;
  }

  -- what stands where the object is there, and where it isn't
  present : (c : List Bool) (slots : List Slot) → sets.test o.presence c ≡ true → cells_at sets cells c ≡ slots → globals_at sets later c ≡ record (globals_at sets heap c) { objects = set (objects_at sets heap c) (name_at sets heap.objects c r) (record { class = o.class.0; size = o.length; cells = map (value_of sets heap c) slots }) }
  present c slots t q =
      let made : object_of sets later c (changed o cells) ≡ record { class = o.class.0; size = o.length; cells = map (value_of sets heap c) slots } = (
      let values = values_same c (cells_at sets cells c) ∙ ap (map (value_of sets heap c)) q in
      λ i. record { class = o.class.0; size = o.length; cells = values i }) in
      let objects : objects_at sets later c ≡ set (objects_at sets heap c) (name_at sets heap.objects c r) (record { class = o.class.0; size = o.length; cells = map (value_of sets heap c) slots }) =
      objects-set o cells sets (object_of sets later c) heap.objects r c l e t
      ∙ (λ i. set (objects_same c (filter (λ x. sets.test x.presence c) heap.objects) i) (name_at sets heap.objects c r) (made i)) in
      let statics = statics_same c heap.statics in
      λ i. record { objects = objects i; statics = statics i; inits = (globals_at sets heap c).inits }

  absent : (c : List Bool) → sets.test o.presence c ≡ false → globals_at sets later c ≡ globals_at sets heap c
  absent c t =
      let objects : objects_at sets later c ≡ objects_at sets heap c =
      objects-absent o cells sets (object_of sets later c) heap.objects r c l e t ∙ objects_same c (filter (λ x. sets.test x.presence c) heap.objects) in
      let statics = statics_same c heap.statics in
      λ i. record { objects = objects i; statics = statics i; inits = (globals_at sets heap c).inits }

-- a write to a cell of an object
IsCellWritten-set : {S I : Type 0} {old new : Sets I} → Extends old new → (heap : HeapView S I) (reference cell : ℕ) (value : Conditional Slot S I) (o : HeapObject S I) (cells : List (Cell S I)) → IsHeap old heap → reference < length heap.objects → o ≡ object_in heap reference → IsCond slot_cmp old value → IsInside old value.scope o.presence → IsValueHeld old heap value → AreWritten old new o.presence o.cells cell value cells → IsCellWritten old new heap reference cell value (record heap { objects = set heap.objects reference (record o { cells = cells }) })
IsCellWritten-set {S = S} {I = I} {old = old} {new = new} x heap reference cell value o cells v l q w n h a =
    let object = is_object_in old heap reference o v l q in
    let e = object_there heap reference o l q in
    let fresh : IsHeap new heap = IsHeap-extends x heap v in
    record {
      is_heap = later_is_heap new heap reference o cells l e fresh (record { known = x.known o.presence object.known; cells = a.cells; short = object.short; sized = rw a.count object.sized }) holds;
      grows = record {
        allowed = refl;
        objects = λ i y k. kept-set o cells heap.objects reference l e i y k;
        texts = λ m text k. k;
      };
      keeps = λ p k. record {
        static_count = k.static_count;
        init_count = k.init_count;
        literals = k.literals;
        resolved = k.resolved;
        words = k.words;
        enough = omega (arith, k.enough, length-set heap.objects reference (record o { cells = cells }));
        first = everywhere-set o cells heap.allowed (suc (first_words p)) heap.objects reference l e k.first;
      };
      inside = λ c t. written c t;
      outside = λ c t. unwritten c t (old.test o.presence c) refl;
    }
  where
    same_test : (c : List Bool) → new.test o.presence c ≡ old.test o.presence c
    same_test c = x.test o.presence c (is_object_in old heap reference o v l q).known

    there : (c : List Bool) → old.test o.presence c ≡ true → item_or (objects_at old heap c) (name_at old heap.objects c reference) no_object ≡ object_of old heap c o
    there c t = named old (object_of old heap c) heap.objects c reference o no_object l (object_there heap reference o l q) t

    slots_held : (c : List Bool) → old.test o.presence c ≡ true → (b : Bool) → old.test value.scope c ≡ b → are_held new heap c (cells_at new cells c) ≡ true
    slots_held c t true s =
        ap (are_held new heap c) (a.inside c s)
        ∙ all_same (is_held old heap c) (is_held new heap c) (is_held-extends x heap v c) (set (cells_at old o.cells c) cell (slot_at old value c))
        ∙ passes_set (is_held old heap c) (cells_at old o.cells c) cell (slot_at old value c) (holds_in old heap reference o v l q c t) (h.held c s)
    slots_held c t false s =
        ap (are_held new heap c) (a.outside c t s)
        ∙ all_same (is_held old heap c) (is_held new heap c) (is_held-extends x heap v c) (cells_at old o.cells c)
        ∙ holds_in old heap reference o v l q c t

    holds : (c : List Bool) → object_holds new heap c (record o { cells = cells }) ≡ true
    holds c = cases (new.test o.presence c) refl
      where
        cases : (b : Bool) → new.test o.presence c ≡ b → (if b then are_held new heap c (cells_at new cells c) else true) ≡ true
        cases true t = slots_held c (sym (same_test c) ∙ t) (old.test value.scope c) refl
        cases false t = refl

    values : (c : List Bool) (slots : List Slot) → map (value_of new heap c) slots ≡ map (value_of old heap c) slots
    values c [] = refl
    values c (slot ∷ slots) = λ i. value_of-extends x heap v c slot i ∷ values c slots i

    -- what stands there, by the slots that the object has
    standing : (c : List Bool) (slots : List Slot) → old.test o.presence c ≡ true → cells_at new cells c ≡ slots → globals_at new (record heap { objects = set heap.objects reference (record o { cells = cells }) }) c ≡ record (globals_at old heap c) { objects = set (objects_at old heap c) (name_at old heap.objects c reference) (record { class = o.class.0; size = o.length; cells = map (value_of old heap c) slots }) }
    standing c slots t s =
        present new heap reference o cells l (object_there heap reference o l q) c slots (same_test c ∙ t) s
        ∙ (
        let globals = globals_at-extends x heap v c in
        let name = name_at-extends x heap v c reference in
        let cells = values c slots in
        λ i. record (globals i) { objects = set ((globals i).objects) (name i) (record { class = o.class.0; size = o.length; cells = cells i }) })

    written : (c : List Bool) → old.test value.scope c ≡ true → globals_at new (record heap { objects = set heap.objects reference (record o { cells = cells }) }) c ≡ with_cell_of (name_at old heap.objects c reference) cell (value_of old heap c (slot_at old value c)) (globals_at old heap c)
    written c s =
        standing c (set (cells_at old o.cells c) cell (slot_at old value c)) (n.inside c s) (a.inside c s)
        ∙ (
        let values = map-set (value_of old heap c) (cells_at old o.cells c) cell (slot_at old value c) in
        λ i. record (globals_at old heap c) { objects = set (objects_at old heap c) (name_at old heap.objects c reference) (record { class = o.class.0; size = o.length; cells = values i }) })
        ∙ (
        let object = sym (there c (n.inside c s)) in
        λ i. record (globals_at old heap c) { objects = set (objects_at old heap c) (name_at old heap.objects c reference) (record (object i) { cells = set ((object i).cells) cell (value_of old heap c (slot_at old value c)) }) })

    unwritten : (c : List Bool) → old.test value.scope c ≡ false → (b : Bool) → old.test o.presence c ≡ b → globals_at new (record heap { objects = set heap.objects reference (record o { cells = cells }) }) c ≡ globals_at old heap c
    unwritten c s true t =
        standing c (cells_at old o.cells c) t (a.outside c t s)
        ∙ (
        let object = sym (there c t) in
        let objects = ap (set (objects_at old heap c) (name_at old heap.objects c reference)) object ∙ set_same (objects_at old heap c) (name_at old heap.objects c reference) no_object in
        λ i. record (globals_at old heap c) { objects = objects i })
    unwritten c s false t = absent new heap reference o cells l (object_there heap reference o l q) c (same_test c ∙ t) ∙ globals_at-extends x heap v c

-- the same, where the heap is known by its parts
pub IsCellWritten-parts : {S I : Type 0} {old new : Sets I} → Extends old new → (parts heap : HeapView S I) → parts ≡ heap → (reference cell : ℕ) (value : Conditional Slot S I) (o : HeapObject S I) (cells : List (Cell S I)) → IsHeap old heap → reference < length heap.objects → o ≡ object_in heap reference → IsCond slot_cmp old value → IsInside old value.scope o.presence → IsValueHeld old heap value → AreWritten old new o.presence o.cells cell value cells → IsCellWritten old new heap reference cell value (record parts { objects = set parts.objects reference (record o { cells = cells }) })
IsCellWritten-parts {S = S} {I = I} {old = old} {new = new} x parts heap same reference cell value o cells v l q w n h a =
    let P : HeapView S I → Type 0 = λ view. IsCellWritten old new heap reference cell value (record view { objects = set view.objects reference (record o { cells = cells }) }) in
    subst P (sym same) (IsCellWritten-set x heap reference cell value o cells v l q w n h a)
