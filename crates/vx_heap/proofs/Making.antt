-- What making an object makes of a heap.
use Rattle.std.proofs.Common.{◌≡◌, ℕ, zero, suc, ◌≤◌, Bool, true, false, List, [], ◌∷◌, ◌++◌, refl, sym, ◌∙◌, ap, map, length, filter, take, arith, if◌then◌else◌, subst}
use Rattle.std.proofs.lemmas.Bool.{lt-ltb, ltb-true}
use Rattle.std.proofs.lemmas.List.{length-append, length-map, length-replicate}
use Rattle.std.specs.List.{list_all}
use Rattle.std.specs.Prelude.{Some, replicate, slice_get}
use Rattle.vx_value.specs.Texts.{IsNumber, Extends as TextsExtend}
use Rattle.vx_value.specs.declared.slot.Slot.{Slot}
use Rattle.vx_value.specs.declared.slot.Slot.TheVariants.{Top, Int, Long, Null, Ref, Text}
use Rattle.vx_value.specs.declared.ids.ClassId.{ClassId}
use Rattle.vx_space.specs.Sets.{Sets}
use Rattle.vx_space.proofs.Spaces.{Extends-refl}
use Rattle.vx_cond.specs.Cond.{Conditional}
use Rattle.vx_cond.specs.Slots.{slot_at}
use Rattle.vx_initial_heap.specs.First.{is_among, value_in}
use Rattle.vx_java.specs.FirstObjects.{first_words}
use Rattle.vx_java.specs.Machine.{Object, Value, length_bound}
use Rattle.vx_java.specs.Machine.{Text as TextValue}
use Rattle.vx_heap.specs.Cells.{cells_at}
use Rattle.vx_heap.specs.Changing.{Grows, IsChangedIn, IsMade, MakesObject, filled, with_object}
use Rattle.vx_heap.specs.Defaults.{AreSlotsOf}
use Rattle.vx_heap.specs.declared.cell_list.Cell.{Cell}
use Rattle.vx_heap.specs.declared.cell_list.Cell.TheVariants.{Plain}
use Rattle.vx_heap.specs.declared.object.HeapObject.{HeapObject}
use Rattle.vx_heap.specs.Heap.{AreEverywhere, AreObjects, HeapView, IsHeap, IsObject, are_held, globals_at, is_held, is_object_held, object_holds, object_of, objects_at, value_of}
use Rattle.vx_heap.proofs.Growing.{Grows-more_texts, Grows-trans, is_held-grown, value_of-grown}
use Rattle.vx_heap.proofs.MoreTexts.{KeepsPlain-texts}
use Rattle.vx_heap.proofs.Places.{and_true, both_true}
use Rattle.vx_heap.proofs.PlainCells.{AreCells-plain, are_held_plain, cells_at-plain, plain_replicate, values_plain}

-- ---- lists

AreObjects-append : {S I : Type 0} (sets : Sets I) (os : List (HeapObject S I)) (o : HeapObject S I) → AreObjects sets os → IsObject sets o → AreObjects sets (os ++ o ∷ [])
AreObjects-append sets [] o h k = (k, tt)
AreObjects-append sets (x ∷ xs) o h k = (h.0, AreObjects-append sets xs o h.1 k)

all_append : {A : Type 0} (p : A → Bool) (xs : List A) (y : A) → list_all p xs ≡ true → p y ≡ true → list_all p (xs ++ y ∷ []) ≡ true
all_append p [] y h k = and_true (p y) true k refl
all_append p (x ∷ xs) y h k = let parts = both_true (p x) (list_all p xs) h in and_true (p x) (list_all p (xs ++ y ∷ [])) parts.0 (all_append p xs y parts.1 k)

all_map : {A : Type 0} (p q : A → Bool) → ((x : A) → p x ≡ true → q x ≡ true) → (xs : List A) → list_all p xs ≡ true → list_all q xs ≡ true
all_map p q h [] k = refl
all_map p q h (x ∷ xs) k = let parts = both_true (p x) (list_all p xs) k in and_true (q x) (list_all q xs) (h x parts.0) (all_map p q h xs parts.1)

get_append : {A : Type 0} (xs : List A) (y : A) (i : ℕ) (x : A) → slice_get xs i ≡ Some x → slice_get (xs ++ y ∷ []) i ≡ Some x
get_append [] y i x h = cc h
get_append (z ∷ zs) y zero x h = h
get_append (z ∷ zs) y (suc i) x h = get_append zs y i x h

get_last : {A : Type 0} (xs : List A) (y : A) → slice_get (xs ++ y ∷ []) (length xs) ≡ Some y
get_last [] y = refl
get_last (x ∷ xs) y = get_last xs y

everywhere_append : {S I : Type 0} (allowed : I) (n : ℕ) (os : List (HeapObject S I)) (o : HeapObject S I) → n ≤ length os → AreEverywhere allowed (take n os) → AreEverywhere allowed (take n (os ++ o ∷ []))
everywhere_append allowed zero os o l h = tt
everywhere_append allowed (suc n) [] o l h = absurd (omega (arith, l))
everywhere_append allowed (suc n) (x ∷ xs) o l h = (h.0, everywhere_append allowed n xs o (omega (arith, l)) h.1)

-- ---- an object behind the others

module _ {S I : Type 0} (sets : Sets I) (heap : HeapView S I) (o : HeapObject S I) where
  abbrev grown : HeapView S I
  grown = record heap { objects = heap.objects ++ o ∷ [] }

  grows : Grows heap grown
  grows = record {
    allowed = refl;
    objects = λ i x h. (x, get_append heap.objects o i x h, refl);
    texts = λ n text h. h;
  }

  held_more : IsHeap sets heap → (c : List Bool) (slot : Slot) → is_held sets heap c slot ≡ true → is_held sets grown c slot ≡ true
  held_more v c slot h = is_held-grown (Extends-refl sets) heap grown v grows c slot h

  value_more : IsHeap sets heap → (c : List Bool) (slot : Slot) → is_held sets heap c slot ≡ true → value_of sets grown c slot ≡ value_of sets heap c slot
  value_more v c slot h = value_of-grown (Extends-refl sets) heap grown v grows c slot h

  values_more : IsHeap sets heap → (c : List Bool) (slots : List Slot) → are_held sets heap c slots ≡ true → map (value_of sets grown c) slots ≡ map (value_of sets heap c) slots
  values_more v c [] h = refl
  values_more v c (slot ∷ slots) h =
      let parts = both_true (is_held sets heap c slot) (are_held sets heap c slots) h in
      λ i. value_more v c slot parts.0 i ∷ values_more v c slots parts.1 i

  holds_more : IsHeap sets heap → (c : List Bool) (x : HeapObject S I) → object_holds sets heap c x ≡ true → object_holds sets grown c x ≡ true
  holds_more v c x h = cases (sets.test x.presence c) h
    where
      cases : (b : Bool) → (if b then are_held sets heap c (cells_at sets x.cells c) else true) ≡ true → (if b then are_held sets grown c (cells_at sets x.cells c) else true) ≡ true
      cases true t = all_map (is_held sets heap c) (is_held sets grown c) (held_more v c) (cells_at sets x.cells c) t
      cases false t = refl

  -- the objects that stood there
  objects_more : IsHeap sets heap → (c : List Bool) (os : List (HeapObject S I)) → list_all (object_holds sets heap c) os ≡ true → map (object_of sets grown c) (filter (λ x. sets.test x.presence c) os) ≡ map (object_of sets heap c) (filter (λ x. sets.test x.presence c) os)
  objects_more v c [] h = refl
  objects_more v c (x ∷ xs) h =
      let parts = both_true (object_holds sets heap c x) (list_all (object_holds sets heap c) xs) h in
      cases (sets.test x.presence c) (filter (λ y. sets.test y.presence c) xs) parts.0 (objects_more v c xs parts.1)
    where
      cases : (b : Bool) (ps : List (HeapObject S I)) → (if b then are_held sets heap c (cells_at sets x.cells c) else true) ≡ true → map (object_of sets grown c) ps ≡ map (object_of sets heap c) ps → map (object_of sets grown c) (if b then x ∷ ps else ps) ≡ map (object_of sets heap c) (if b then x ∷ ps else ps)
      cases true ps t e =
          let cells = values_more v c (cells_at sets x.cells c) t in
          λ i. record { class = x.class.0; size = x.length; cells = cells i } ∷ e i
      cases false ps t e = e

  statics_more : IsHeap sets heap → (c : List Bool) (xs : List (Conditional Slot S I)) → are_held sets heap c (map (λ cond. slot_at sets cond c) xs) ≡ true → map (λ cond. value_of sets grown c (slot_at sets cond c)) xs ≡ map (λ cond. value_of sets heap c (slot_at sets cond c)) xs
  statics_more v c [] h = refl
  statics_more v c (x ∷ xs) h =
      let parts = both_true (is_held sets heap c (slot_at sets x c)) (are_held sets heap c (map (λ cond. slot_at sets cond c) xs)) h in
      λ i. value_more v c (slot_at sets x c) parts.0 i ∷ statics_more v c xs parts.1 i

-- the last of a list that is filtered and mapped
last_object : {A B : Type 0} (test : A → Bool) (f : A → B) (xs : List A) (y : A) → map f (filter test (xs ++ y ∷ [])) ≡ map f (filter test xs) ++ (if test y then f y ∷ [] else [])
last_object test f [] y = cases (test y)
  where
    cases : (b : Bool) → map f (if b then y ∷ [] else []) ≡ (if b then f y ∷ [] else [])
    cases true = refl
    cases false = refl
last_object {A = A} test f (x ∷ xs) y = cases (test x) (filter test (xs ++ y ∷ [])) (filter test xs) (last_object test f xs y)
  where
    cases : (b : Bool) (ps qs : List A) → map f ps ≡ map f qs ++ (if test y then f y ∷ [] else []) → map f (if b then x ∷ ps else ps) ≡ map f (if b then x ∷ qs else qs) ++ (if test y then f y ∷ [] else [])
    cases true ps qs e = ap (λ zs. f x ∷ zs) e
    cases false ps qs e = e

append_nothing : {A : Type 0} (xs : List A) → xs ++ [] ≡ xs
append_nothing [] = refl
append_nothing (x ∷ xs) = ap (λ ys. x ∷ ys) (append_nothing xs)

heap_holds : {S I : Type 0} (sets : Sets I) (heap : HeapView S I) → IsHeap sets heap → (c : List Bool) → (list_all (object_holds sets heap c) heap.objects ≡ true) × (are_held sets heap c (map (λ cond. slot_at sets cond c) heap.statics) ≡ true)
unfolding IsHeap
heap_holds sets heap v c = (v.objects_held c, v.statics_held c)

-- an object whose cells name no object
abbrev plain_object : {S I : Type 0} → ClassId → ℕ → I → List Slot → HeapObject S I
plain_object class size path slots = record { class = class; length = size; presence = path; cells = map Plain slots }

grown_is_heap : {S I : Type 0} (sets : Sets I) (heap : HeapView S I) (o : HeapObject S I) → IsHeap sets heap → IsObject sets o → ((c : List Bool) → sets.test o.presence c ≡ true → are_held sets heap c (cells_at sets o.cells c) ≡ true) → IsHeap sets (grown sets heap o)
unfolding IsHeap
grown_is_heap sets heap o v is held = record {
  allowed_known = v.allowed_known;
  objects = AreObjects-append sets heap.objects o v.objects is;
  statics = v.statics;
  inits = v.inits;
  objects_held = λ c. all_append (object_holds sets (grown sets heap o) c) heap.objects o (all_map (object_holds sets heap c) (object_holds sets (grown sets heap o) c) (holds_more sets heap o v c) heap.objects (v.objects_held c)) (new_holds c (sets.test o.presence c) refl);
  statics_held = λ c. all_map (is_held sets heap c) (is_held sets (grown sets heap o) c) (held_more sets heap o v c) (map (λ cond. slot_at sets cond c) heap.statics) (v.statics_held c);
}
  where
    new_holds : (c : List Bool) (b : Bool) → sets.test o.presence c ≡ b → (if b then are_held sets (grown sets heap o) c (cells_at sets o.cells c) else true) ≡ true
    new_holds c true t = all_map (is_held sets heap c) (is_held sets (grown sets heap o) c) (held_more sets heap o v c) (cells_at sets o.cells c) (held c t)
    new_holds c false t = refl

-- an object whose cells name what is there is made where it is present
pub made_changed : {S I : Type 0} (sets : Sets I) (heap : HeapView S I) (o : HeapObject S I) (object : List Bool → Object) → IsHeap sets heap → IsObject sets o → ((c : List Bool) → sets.test o.presence c ≡ true → are_held sets heap c (cells_at sets o.cells c) ≡ true) → ((c : List Bool) → sets.test o.presence c ≡ true → object_of sets heap c o ≡ object c) → IsChangedIn sets sets heap (record heap { objects = heap.objects ++ o ∷ [] }) (sets.test o.presence) (λ c. with_object (object c))
made_changed {S = S} {I = I} sets heap o object v is held stands = record {
  is_heap = grown_is_heap sets heap o v is held;
  grows = grows sets heap o;
  keeps = λ p h. record {
    static_count = h.static_count;
    init_count = h.init_count;
    literals = h.literals;
    resolved = h.resolved;
    words = h.words;
    enough = omega (arith, h.enough, length-append heap.objects (o ∷ []));
    first = everywhere_append heap.allowed (suc (first_words p)) heap.objects o (omega (arith, h.enough)) h.first;
  };
  inside = λ c t. at c (ap (λ b. if b then object_of sets (grown sets heap o) c o ∷ [] else []) t ∙ ap (λ x. x ∷ []) (there c t));
  outside = λ c t. at c (ap (λ b. if b then object_of sets (grown sets heap o) c o ∷ [] else []) t) ∙ same c;
}
  where
    there : (c : List Bool) → sets.test o.presence c ≡ true → object_of sets (grown sets heap o) c o ≡ object c
    there c t =
        let cells = values_more sets heap o v c (cells_at sets o.cells c) (held c t) in
        (λ i. record { class = o.class.0; size = o.length; cells = cells i }) ∙ stands c t

    at : (c : List Bool) {last : List Object} → (if sets.test o.presence c then object_of sets (grown sets heap o) c o ∷ [] else []) ≡ last → globals_at sets (grown sets heap o) c ≡ record (globals_at sets heap c) { objects = objects_at sets heap c ++ last }
    at c {last = last} e =
        let there = heap_holds sets heap v c in
        let objects : objects_at sets (grown sets heap o) c ≡ objects_at sets heap c ++ last = last_object (λ x. sets.test x.presence c) (object_of sets (grown sets heap o) c) heap.objects o ∙ (λ i. objects_more sets heap o v c heap.objects there.0 i ++ e i) in
        let statics = statics_more sets heap o v c heap.statics there.1 in
        λ i. record { objects = objects i; statics = statics i; inits = (globals_at sets heap c).inits }

    same : (c : List Bool) → record (globals_at sets heap c) { objects = objects_at sets heap c ++ [] } ≡ globals_at sets heap c
    same c = λ i. record (globals_at sets heap c) { objects = append_nothing (objects_at sets heap c) i }

-- and it is there
pub made_held : {S I : Type 0} (sets : Sets I) (heap : HeapView S I) (o : HeapObject S I) (c : List Bool) → sets.test o.presence c ≡ true → is_held sets (record heap { objects = heap.objects ++ o ∷ [] }) c (Ref (length heap.objects)) ≡ true
made_held sets heap o c t = ap (is_object_held sets c) (get_last heap.objects o) ∙ t

-- an object was made
pub IsMade-plain : {S I : Type 0} (sets : Sets I) (heap : HeapView S I) (class : ClassId) (size : ℕ) (path : I) (slots : List Slot) → IsHeap sets heap → sets.is_known path ≡ true → size ≤ length_bound → size ≤ length slots → list_all (is_among 0 (length heap.texts)) slots ≡ true → IsMade sets heap path (record { class = class.0; size = size; cells = map (value_in heap.texts) slots }) (grown sets heap (plain_object class size path slots)) (length heap.objects)
IsMade-plain {S = S} {I = I} sets heap class size path slots v k l enough m =
    let o : HeapObject S I = plain_object class size path slots in
    let count : length o.cells ≡ length slots = length-map slots _ in
    let is : IsObject sets o = record { known = k; cells = AreCells-plain S sets path slots; short = l; sized = omega (arith, enough, count) } in
    record {
      changed = made_changed sets heap o (λ _. record { class = class.0; size = size; cells = map (value_in heap.texts) slots }) v is (λ c t. ap (are_held sets heap c) (cells_at-plain S sets c slots) ∙ are_held_plain sets heap c slots m) (λ c t. object c);
      reference_is = refl;
      held = made_held sets heap o;
    }
  where
    object : (c : List Bool) → object_of sets heap c (plain_object class size path slots) ≡ record { class = class.0; size = size; cells = map (value_in heap.texts) slots }
    object c =
        let cells = ap (map (value_of sets heap c)) (cells_at-plain S sets c slots) ∙ values_plain sets heap c slots m in
        λ i. record { class = class.0; size = size; cells = cells i }

-- the same where a text was put first
pub IsMade-texts : {S I : Type 0} (sets : Sets I) (heap : HeapView S I) (texts : List (List ℕ)) (path : I) (object : Object) (after : HeapView S I) (reference : ℕ) → IsHeap sets heap → TextsExtend heap.texts texts → IsMade sets (record heap { texts = texts }) path object after reference → IsMade sets heap path object after reference
IsMade-texts sets heap texts path object after reference v more made =
    let plain = KeepsPlain-texts heap texts more sets v in
    record {
      changed = record {
        is_heap = made.changed.is_heap;
        grows = Grows-trans heap (record heap { texts = texts }) after (Grows-more_texts heap texts more) made.changed.grows;
        keeps = λ p h. made.changed.keeps p (record { static_count = h.static_count; init_count = h.init_count; literals = h.literals; resolved = h.resolved; words = h.words; enough = h.enough; first = h.first });
        inside = λ c t. made.changed.inside c t ∙ ap (with_object object) (plain.1 c);
        outside = λ c t. made.changed.outside c t ∙ plain.1 c;
      };
      reference_is = made.reference_is;
      held = made.held;
    }

-- ---- what begins with slots that stand for plain values

-- an object of a class, after a text was put
pub MakesObject-put : {S I : Type 0} (heap middle : HeapView S I) (class : ClassId) (path : I) (slots : List Slot) (values : List Value) → middle ≡ record heap { texts = middle.texts } → TextsExtend heap.texts middle.texts → (map (value_in middle.texts) slots ≡ values) × (list_all (is_among 0 (length middle.texts)) slots ≡ true) → MakesObject heap path (record { class = class.0; size = 0; cells = values }) (record middle { objects = middle.objects ++ plain_object class 0 path slots ∷ [] }) (length middle.objects)
MakesObject-put {S = S} {I = I} heap middle class path slots values same more are sets v k =
    let before : HeapView S I = record heap { texts = middle.texts } in
    let later : IsHeap sets before = (KeepsPlain-texts heap middle.texts more sets v).0 in
    let P : List Value → Type 0 = λ cells. IsMade sets before path (record { class = class.0; size = 0; cells = cells }) (grown sets before (plain_object class 0 path slots)) (length heap.objects) in
    let Q : HeapView S I → Type 0 = λ m. IsMade sets heap path (record { class = class.0; size = 0; cells = values }) (grown sets m (plain_object class 0 path slots)) (length m.objects) in
    let made : P values = subst P are.0 (IsMade-plain sets before class 0 path slots later k (omega arith) (omega arith) are.1) in
    subst Q (sym same) (IsMade-texts sets heap middle.texts path (record { class = class.0; size = 0; cells = values }) (grown sets before (plain_object class 0 path slots)) (length heap.objects) v more made)

pub slots_begin : (empty : ℕ) (texts : List (List ℕ)) (slots : List Slot) (values : List Value) → IsNumber texts empty [] → AreSlotsOf empty slots values → (map (value_in texts) slots ≡ values) × (list_all (is_among 0 (length texts)) slots ≡ true)
slots_begin empty texts [] [] n h = (refl, refl)
slots_begin empty texts [] (v ∷ vs) n h = absurd h
slots_begin empty texts (s ∷ ss) [] n h = absurd h
slots_begin empty texts (s ∷ ss) (v ∷ vs) n h =
    let rest = slots_begin empty texts ss vs n h.1 in
    ((λ i. h.0.value_is texts n i ∷ rest.0 i), and_true (is_among 0 (length texts) s) (list_all (is_among 0 (length texts)) ss) (h.0.among texts n) rest.1)

pub text_begins : (texts : List (List ℕ)) (number : ℕ) (units : List ℕ) → IsNumber texts number units → (map (value_in texts) (Text number ∷ []) ≡ TextValue units ∷ []) × (list_all (is_among 0 (length texts)) (Text number ∷ []) ≡ true)
text_begins texts number units n = (ap (λ text. TextValue text ∷ []) n.text, and_true (is_among 0 (length texts) (Text number)) true (lt-ltb number (length texts) n.known) refl)

-- ---- arrays

anywhere : (texts : List (List ℕ)) (slot : Slot) → is_among 0 0 slot ≡ true → (value_in texts slot ≡ value_in [] slot) × (is_among 0 (length texts) slot ≡ true)
anywhere texts Top h = (refl, refl)
anywhere texts (Int n) h = (refl, refl)
anywhere texts (Long n) h = (refl, refl)
anywhere texts Null h = (refl, refl)
anywhere texts (Ref i) h = absurd (omega (arith, ltb-true i 0 h))
anywhere texts (Text n) h = absurd (omega (arith, ltb-true n 0 h))

filled_anywhere : (texts : List (List ℕ)) (count : ℕ) (slot : Slot) → is_among 0 0 slot ≡ true → (map (value_in texts) (replicate count slot) ≡ replicate count (value_in [] slot)) × (list_all (is_among 0 (length texts)) (replicate count slot) ≡ true)
filled_anywhere texts zero slot h = (refl, refl)
filled_anywhere texts (suc n) slot h =
    let here = anywhere texts slot h in
    let rest = filled_anywhere texts n slot h in
    ((λ i. here.0 i ∷ rest.0 i), and_true (is_among 0 (length texts) slot) (list_all (is_among 0 (length texts)) (replicate n slot)) here.1 rest.1)

pub MakesObject-filled : {S I : Type 0} (heap : HeapView S I) (class : ClassId) (count : ℕ) (path : I) (element : Slot) (cells : List (Cell S I)) → count ≤ length_bound → is_among 0 0 element ≡ true → cells ≡ replicate count (Plain element) → MakesObject heap path (filled class.0 count (value_in [] element)) (record heap { objects = heap.objects ++ record { class = class; length = count; presence = path; cells = cells } ∷ [] }) (length heap.objects)
MakesObject-filled {S = S} {I = I} heap class count path element cells short plain e sets v k =
    let are = filled_anywhere heap.texts count element plain in
    let P : List Value → Type 0 = λ values. IsMade sets heap path (record { class = class.0; size = count; cells = values }) (grown sets heap (plain_object class count path (replicate count element))) (length heap.objects) in
    let Q : List (Cell S I) → Type 0 = λ cs. IsMade sets heap path (filled class.0 count (value_in [] element)) (grown sets heap (record { class = class; length = count; presence = path; cells = cs })) (length heap.objects) in
    subst Q (sym (e ∙ plain_replicate S I count element)) (subst P are.0 (IsMade-plain sets heap class count path (replicate count element) v k short (omega (arith, length-replicate count element)) are.1))
