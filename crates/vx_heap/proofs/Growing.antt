-- What stays where the heap gets more objects and texts.
use Rattle.std.proofs.Common.{◌≡◌, ℕ, ◌<◌, ◌≤◌, zero, suc, Bool, true, List, [], ◌∷◌, refl, sym, ◌∙◌, ap, arith, length}
use Rattle.std.proofs.lemmas.Bool.{lt-ltb, ltb-true}
use Rattle.std.proofs.lemmas.Option.{slice_get_within}
use Rattle.std.specs.Prelude.{Option, Some, None, slice_get, unwrap_or}
use Rattle.vx_list.specs.Places.{item_or}
use Rattle.vx_value.specs.Texts.{text_at, Extends as TextsExtend}
use Rattle.vx_value.specs.declared.slot.Slot.{Slot}
use Rattle.vx_value.specs.declared.slot.Slot.TheVariants.{Top, Int, Long, Null, Ref, Text}
use Rattle.vx_space.specs.Sets.{Sets, Extends}
use Rattle.vx_java.specs.Machine.{Ref as RefValue, Text as TextValue}
use Rattle.vx_heap.specs.declared.object.HeapObject.{HeapObject}
use Rattle.vx_heap.specs.Changing.{Grows}
use Rattle.vx_heap.specs.Heap.{HeapView, IsHeap, count_if, is_held, is_object_held, name_at, value_of}
use Rattle.vx_heap.proofs.HeapLaws.{is_held-extends, name_at-extends}

-- ---- growth

pub Grows-refl : {S I : Type 0} (heap : HeapView S I) → Grows heap heap
Grows-refl heap = record { allowed = refl; objects = λ i o h. (o, h, refl); texts = λ n text h. h }

pub Grows-trans : {S I : Type 0} (a b c : HeapView S I) → Grows a b → Grows b c → Grows a c
Grows-trans a b c f g = record {
  allowed = g.allowed ∙ f.allowed;
  objects = λ i o h.
      let middle = f.objects i o h in
      let last = g.objects i middle.0 middle.1 in
      (last.0, last.1, last.2 ∙ middle.2);
  texts = λ n text h. g.texts n text (f.texts n text h);
}

-- ---- objects that keep their places and their presence

abbrev pub KeepObjects : {S I : Type 0} → List (HeapObject S I) → List (HeapObject S I) → Type 0
KeepObjects {S = S} {I = I} xs ys = (i : ℕ) (o : HeapObject S I) → slice_get xs i ≡ Some o → (later : HeapObject S I) × (slice_get ys i ≡ Some later) × (later.presence ≡ o.presence)

pub name_at-grown : {S I : Type 0} (sets : Sets I) (xs ys : List (HeapObject S I)) → KeepObjects xs ys → (c : List Bool) (i : ℕ) → i ≤ length xs → name_at sets ys c i ≡ name_at sets xs c i
name_at-grown sets [] [] k c i l = refl
name_at-grown sets [] (y ∷ ys) k c zero l = refl
name_at-grown sets [] (y ∷ ys) k c (suc i) l = absurd (omega (arith, l))
name_at-grown sets (x ∷ xs) [] k c i l = cc (k 0 x refl).1
name_at-grown sets (x ∷ xs) (y ∷ ys) k c zero l = refl
name_at-grown {S = S} {I = I} sets (x ∷ xs) (y ∷ ys) k c (suc i) l =
    let first = k 0 x refl in
    let rest = name_at-grown sets xs ys (λ j o h. k (suc j) o h) c i (omega (arith, l)) in
    λ j. count_if (sets.test (same first.0 first.1 first.2 j) c) (rest j)
  where
    inner : (later : HeapObject S I) → ◌≡◌ {A = Option (HeapObject S I)} (Some y) (Some later) → y ≡ later
    inner later h = cc h

    same : (later : HeapObject S I) → ◌≡◌ {A = Option (HeapObject S I)} (Some y) (Some later) → later.presence ≡ x.presence → y.presence ≡ x.presence
    same later h e = ap (λ (o : HeapObject S I). o.presence) (inner later h) ∙ e

pub held_object : {S I : Type 0} (sets : Sets I) (c : List Bool) (o : Option (HeapObject S I)) → is_object_held sets c o ≡ true → (x : HeapObject S I) × (o ≡ Some x) × (sets.test x.presence c ≡ true)
held_object sets c None h = cc h
held_object sets c (Some x) h = (x, refl, h)

pub text_there : (texts : List (List ℕ)) (n : ℕ) → n < length texts → slice_get texts n ≡ Some (text_at texts n)
text_there [] n h = absurd (omega (arith, h))
text_there (t ∷ texts) zero h = refl
text_there (t ∷ texts) (suc n) h = text_there texts n (omega (arith, h))

-- ---- slots that name what is there

pub value_of-grown : {S I : Type 0} {old new : Sets I} → Extends old new → (before after : HeapView S I) → IsHeap old before → Grows before after → (c : List Bool) (slot : Slot) → is_held old before c slot ≡ true → value_of new after c slot ≡ value_of old before c slot
value_of-grown e before after v k c Top h = refl
value_of-grown e before after v k c (Int n) h = refl
value_of-grown e before after v k c (Long n) h = refl
value_of-grown e before after v k c Null h = refl
value_of-grown {old = old} {new = new} e before after v k c (Ref i) h =
    let o = held_object old c (slice_get before.objects i) h in
    let within = slice_get_within before.objects i o.0 o.1 in
    ap RefValue (name_at-grown new before.objects after.objects k.objects c i (omega (arith, within)) ∙ name_at-extends e before v c i)
value_of-grown e before after v k c (Text n) h = ap TextValue (ap (λ o. unwrap_or o []) (k.texts n (text_at before.texts n) (text_there before.texts n (ltb-true n (length before.texts) h))))

pub is_held-grown : {S I : Type 0} {old new : Sets I} → Extends old new → (before after : HeapView S I) → IsHeap old before → Grows before after → (c : List Bool) (slot : Slot) → is_held old before c slot ≡ true → is_held new after c slot ≡ true
is_held-grown e before after v k c Top h = refl
is_held-grown e before after v k c (Int n) h = refl
is_held-grown e before after v k c (Long n) h = refl
is_held-grown e before after v k c Null h = refl
is_held-grown {S = S} {I = I} {old = old} {new = new} e before after v k c (Ref i) h =
    let o = held_object old c (slice_get before.objects i) h in
    let later = k.objects i o.0 o.1 in
    ap (is_object_held new c) later.1 ∙ ap (λ p. new.test p c) later.2 ∙ there o.0 o.1
  where
    there : (o : HeapObject S I) → slice_get before.objects i ≡ Some o → new.test o.presence c ≡ true
    there o q = sym (ap (is_object_held new c) q) ∙ is_held-extends e before v c (Ref i) ∙ h
is_held-grown e before after v k c (Text n) h =
    let text = text_there before.texts n (ltb-true n (length before.texts) h) in
    lt-ltb n (length after.texts) (slice_get_within after.texts n (text_at before.texts n) (k.texts n (text_at before.texts n) text))

-- ---- more texts

item_there : {A : Type 0} (xs : List A) (n : ℕ) (x d : A) → n < length xs → item_or xs n d ≡ x → slice_get xs n ≡ Some x
item_there [] n x d h e = absurd (omega arith)
item_there (y ∷ ys) zero x d h e = ap Some e
item_there (y ∷ ys) (suc n) x d h e = item_there ys n x d (omega arith) e

item_given : {A : Type 0} (xs : List A) (n : ℕ) (x d : A) → slice_get xs n ≡ Some x → item_or xs n d ≡ x
item_given xs n x d h = ap (λ o. unwrap_or o d) h

pub Grows-more_texts : {S I : Type 0} (heap : HeapView S I) (texts : List (List ℕ)) → TextsExtend heap.texts texts → Grows heap (record heap { texts = texts })
Grows-more_texts heap texts more = record {
  allowed = refl;
  objects = λ i o h. (o, h, refl);
  texts = λ n text h.
      let there = more n (slice_get_within heap.texts n text h) in
      item_there texts n text [] there.known (there.text ∙ item_given heap.texts n text [] h);
}
