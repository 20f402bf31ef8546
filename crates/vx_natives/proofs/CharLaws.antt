-- Texts of arrays of chars, read one cell after the other.
use Rattle.std.proofs.Common.{◌≡◌, ℕ, ◌+◌, ◌<◌, ◌≤◌, Bool, true, false, List, [], ◌∷◌, ◌++◌, refl, sym, ◌∙◌, ap, subst, arith, length, map, take, get_or}
use Rattle.std.proofs.lemmas.Bool.{lt-ltb, ltb-true}
use Rattle.std.proofs.lemmas.List.{length-map, map-append, take_all, take_more}
use Rattle.std.proofs.lemmas.Option.{slice_get_within, unwrap_or-slice_get}
use Rattle.std.specs.Prelude.{Option, Some, unwrap_or}
use Rattle.vx_cond.proofs.CondLaws.{IsCond-of}
use Rattle.vx_cond.specs.Cond.{Conditional, IsCond, IsCondOf, IsInside}
use Rattle.vx_cond.specs.Leaves.{value_within}
use Rattle.vx_families.proofs.MoreTexts.{HasMoreTexts-put, HasMoreTexts-trans, IsHeap-texts, globals_at-texts}
use Rattle.vx_families.proofs.Operands.{one_answer}
use Rattle.vx_families.specs.Texts.{HasMoreTexts}
use Rattle.vx_group_states.specs.Answering.{answer_at, slot_by}
use Rattle.vx_group_states.proofs.StateLaws.{both_first, both_second}
use Rattle.vx_group_states.specs.Answers.{answer_cmp}
use Rattle.vx_group_states.specs.declared.answer.Answer.{Answer}
use Rattle.vx_group_states.specs.declared.answer.Answer.TheVariants as answer
use Rattle.vx_families.proofs.NameLaws.{name_stays}
use Rattle.vx_heap.proofs.Cells.{is_object_in, named, object_there}
use Rattle.vx_group_states.proofs.GrownStates.{all_kept}
use Rattle.vx_heap.proofs.Growing.{is_held-grown, text_there, value_of-grown}
use Rattle.vx_heap.proofs.HeapLaws.{globals_at-extends, name_at-extends}
use Rattle.vx_heap.specs.Cells.{cell_slot, cells_at}
use Rattle.vx_heap.specs.Changing.{Grows}
use Rattle.vx_heap.specs.Heap.{HeapView, IsHeap, IsTextPut, are_held, globals_at, is_held, name_at, object_in, object_of, value_of}
use Rattle.vx_java.specs.Machine.{Object, no_object}
use Rattle.vx_java.specs.Machine.{Text as TextValue, Top as TopValue}
use Rattle.vx_java.specs.Texts.{unit_of}
use Rattle.vx_list.specs.Places.{item_or}
use Rattle.vx_space.proofs.Spaces.{Extends-refl, Extends-trans}
use Rattle.vx_space.specs.Sets.{Extends, Sets}
use Rattle.vx_value.specs.Texts.{Extends as TextsExtend, text_at}
use Rattle.vx_value.specs.declared.slot.Slot.{Slot}
use Rattle.vx_value.specs.declared.slot.Slot.TheVariants.{Int, Long, Null, Ref, Text, Top}
use Rattle.vx_natives.specs.Calls.{value_of_call, values_of}
use Rattle.vx_natives.specs.Cells.{cell_of, cells_of}
use Rattle.vx_natives.specs.Chars.{IsAppended, IsAppendedOver, IsTextGiven, is_text_known, unit_in}
use Rattle.vx_natives.specs.Readings.{AreReadings, HasReading, IsCharsRead, IsCharsText, IsReadOver, chars_at, value_among}
use Rattle.vx_natives.specs.Readings.{IsReading as IsReadingOf}
use Rattle.vx_natives.specs.declared.readings.Reading.{Reading}
use Rattle.vx_natives.specs.declared.readings.Reading.TheVariants as reading
use Rattle.vx_natives.specs.declared.call.Call.{Call}
use Rattle.vx_natives.specs.declared.call.Call.TheVariants as given
use Rattle.vx_natives.proofs.Leaves.{Stays}

-- ---- texts that are given

pub given_more : (before after : List (List ℕ)) → TextsExtend before after → (units : List ℕ) (a : Answer) → IsTextGiven before units a → IsTextGiven after units a
given_more before after more units a h =
    let later = more h.number h.text.known in
    record { number = h.number; is = h.is; text = record { known = later.known; text = later.text ∙ h.text.text } }

given_same : (texts : List (List ℕ)) (units other : List ℕ) (a : Answer) → units ≡ other → IsTextGiven texts units a → IsTextGiven texts other a
given_same texts units other a same h = record { number = h.number; is = h.is; text = record { known = h.text.known; text = h.text.text ∙ same } }

-- a growing table of texts
texts_grow : {S I : Type 0} (now after : HeapView S I) → Grows now after → TextsExtend now.texts after.texts
texts_grow now after k n l = record {
  known = slice_get_within after.texts n (text_at now.texts n) (k.texts n (text_at now.texts n) (text_there now.texts n l));
  text = ap (λ (o : Option (List ℕ)). unwrap_or o []) (k.texts n (text_at now.texts n) (text_there now.texts n l));
}

appended_stays : (before now after : List (List ℕ)) → TextsExtend now after → (pair : Call) (a : Answer) → IsAppended before now pair a → IsAppended before after pair a
appended_stays before now after more (given.Two (Text n) element) a h = given_more now after more _ a h
appended_stays before now after more (given.Two Top element) a h = h
appended_stays before now after more (given.Two (Int n) element) a h = h
appended_stays before now after more (given.Two (Long n) element) a h = h
appended_stays before now after more (given.Two Null element) a h = h
appended_stays before now after more (given.Two (Ref n) element) a h = h
appended_stays before now after more given.Illegal a h = h
appended_stays before now after more given.Nothing a h = h
appended_stays before now after more (given.One x) a h = h
appended_stays before now after more (given.Three x y z) a h = h
appended_stays before now after more (given.Four x y z u) a h = h
appended_stays before now after more (given.Five x y z u v) a h = h

pub appended_law : {S I : Type 0} (before : List (List ℕ)) → Stays {S = S} {I = I} (IsAppendedOver before)
appended_law before = record { stays = λ s1 s2 e now after v k c pair a same h. appended_stays before now.texts after.texts (texts_grow now after k) pair a h }

-- what was appended over later texts was appended over earlier ones
pub appended_earlier : (before now after : List (List ℕ)) → TextsExtend before now → (pair : Call) (a : Answer) → is_text_known before (value_of_call false pair) ≡ true → IsAppended now after pair a → IsAppended before after pair a
appended_earlier before now after more (given.Two (Text n) element) a t h = given_same after _ _ a (ap (λ units. units ++ unit_in element ∷ []) (more n (ltb-true n (length before) t)).text) h
appended_earlier before now after more (given.Two Top element) a t h = h
appended_earlier before now after more (given.Two (Int n) element) a t h = h
appended_earlier before now after more (given.Two (Long n) element) a t h = h
appended_earlier before now after more (given.Two Null element) a t h = h
appended_earlier before now after more (given.Two (Ref n) element) a t h = h
appended_earlier before now after more given.Illegal a t h = h
appended_earlier before now after more given.Nothing a t h = h
appended_earlier before now after more (given.One x) a t h = h
appended_earlier before now after more (given.Three x y z) a t h = h
appended_earlier before now after more (given.Four x y z u) a t h = h
appended_earlier before now after more (given.Five x y z u v) a t h = h

-- nothing is appended where there is no text
pub nothing_appended : (before after : List (List ℕ)) (pair : Call) → ((number : ℕ) (element : Slot) → pair ≡ given.Two (Text number) element → ⊥) → IsAppended before after pair answer.Pass
nothing_appended before after (given.Two (Text n) element) other = absurd (other n element refl)
nothing_appended before after (given.Two Top element) other = refl
nothing_appended before after (given.Two (Int n) element) other = refl
nothing_appended before after (given.Two (Long n) element) other = refl
nothing_appended before after (given.Two Null element) other = refl
nothing_appended before after (given.Two (Ref n) element) other = refl
nothing_appended before after given.Illegal other = refl
nothing_appended before after given.Nothing other = refl
nothing_appended before after (given.One x) other = refl
nothing_appended before after (given.Three x y z) other = refl
nothing_appended before after (given.Four x y z u) other = refl
nothing_appended before after (given.Five x y z u v) other = refl

pub text_known_more : (before now : List (List ℕ)) → TextsExtend before now → (slot : Slot) → is_text_known before slot ≡ true → is_text_known now slot ≡ true
text_known_more before now more (Text n) t = lt-ltb n (length now) (more n (ltb-true n (length before) t)).known
text_known_more before now more Top t = refl
text_known_more before now more (Int n) t = refl
text_known_more before now more (Long n) t = refl
text_known_more before now more Null t = refl
text_known_more before now more (Ref n) t = refl

-- ---- cells of an array

-- they stay over a later space and a heap with more texts
pub cells_later : {S I : Type 0} {s0 s1 : Sets I} → Extends s0 s1 → (before after : HeapView S I) → IsHeap s0 before → HasMoreTexts before after → (c : List Bool) (r : ℕ) → cells_of s1 after c r ≡ cells_of s0 before c r
cells_later {S = S} {I = I} {s0 = s0} {s1 = s1} e before after v m c r =
    let globals = globals_at-extends e after (IsHeap-texts s0 before after m v) c ∙ globals_at-texts s0 before after m v c in
    let name = ap (λ (h : HeapView S I). name_at s1 h.objects c r) m.same ∙ name_at-extends e before v c r in
    λ i. (item_or ((globals i).objects) (name i) no_object).cells

module _ {S I : Type 0} (sets : Sets I) (heap : HeapView S I) (c : List Bool) (r : ℕ) where
  -- as many as the object has, where it is there
  pub cells_number : r < length heap.objects → sets.test (object_in heap r).presence c ≡ true → length (cells_of sets heap c r) ≡ length (object_in heap r).cells
  cells_number l t =
      let o = object_in heap r in
      let there = object_there heap r o l refl in
      ap (λ (x : Object). length x.cells) (named sets (object_of sets heap c) heap.objects c r o no_object l there t)
      ∙ length-map (cells_at sets o.cells c) (value_of sets heap c)
      ∙ length-map o.cells (cell_slot sets c)

  -- one cell more
  chars_more : (cell : ℕ) → cell < length (cells_of sets heap c r) → chars_at sets heap c r (cell + 1) ≡ chars_at sets heap c r cell ++ unit_of (item_or (cells_of sets heap c r) cell TopValue) ∷ []
  chars_more cell l =
      let cells = cells_of sets heap c r in
      ap (map unit_of) (take_more cells cell TopValue l)
      ∙ map-append unit_of (take cell cells) (get_or cells cell TopValue ∷ [])
      ∙ ap (λ v. map unit_of (take cell cells) ++ unit_of v ∷ []) (sym (unwrap_or-slice_get cells cell TopValue))

  pub all_chars : (count : ℕ) → length (cells_of sets heap c r) ≤ count → chars_at sets heap c r count ≡ map unit_of (cells_of sets heap c r)
  all_chars count l = ap (map unit_of) (take_all count (cells_of sets heap c r) l)

unit_there : {S I : Type 0} (sets : Sets I) (heap : HeapView S I) (c : List Bool) (slot : Slot) → unit_in slot ≡ unit_of (value_of sets heap c slot)
unit_there sets heap c Top = refl
unit_there sets heap c (Int n) = refl
unit_there sets heap c (Long n) = refl
unit_there sets heap c Null = refl
unit_there sets heap c (Ref r) = refl
unit_there sets heap c (Text n) = refl

-- the text of a pair with the next cell behind it
pub element_given : {S I : Type 0} (s0 s1 s3 : Sets I) (heap after : HeapView S I) (c : List Bool) (r cell : ℕ) (text a : Answer) (x : Slot) (pair : Call) → IsTextGiven heap.texts (chars_at s0 heap c r cell) text → pair ≡ given.Two (slot_by text) x → value_of s1 heap c x ≡ item_or (cells_of s0 heap c r) cell TopValue → cell < length (cells_of s0 heap c r) → IsAppended heap.texts after.texts pair a → cells_of s3 after c r ≡ cells_of s0 heap c r → IsTextGiven after.texts (chars_at s3 after c r (cell + 1)) a
element_given s0 s1 s3 heap after c r cell text a x pair g is value l appended same =
    let P : Call → Type 0 = λ k. IsAppended heap.texts after.texts k a in
    let there : IsAppended heap.texts after.texts (given.Two (Text g.number) x) a = subst P (is ∙ ap (λ b. given.Two (slot_by b) x) g.is) appended in
    let unit = unit_there s1 heap c x ∙ ap unit_of value in
    let whole : text_at heap.texts g.number ++ unit_in x ∷ [] ≡ chars_at s3 after c r (cell + 1) =
    (λ i. g.text.text i ++ unit i ∷ []) ∙ sym (chars_more s0 heap c r cell l) ∙ ap (λ cells. map unit_of (take (cell + 1) cells)) (sym same) in
    given_same after.texts _ _ a whole there

-- the text in a pair is known
pub pair_known : (texts : List (List ℕ)) (units : List ℕ) (text : Answer) (x : Slot) (pair : Call) → IsTextGiven texts units text → pair ≡ given.Two (slot_by text) x → is_text_known texts (value_of_call false pair) ≡ true
pair_known texts units text x pair g is = ap (λ k. is_text_known texts (value_of_call false k)) (is ∙ ap (λ b. given.Two (slot_by b) x) g.is) ∙ lt-ltb g.number (length texts) g.text.known

-- ---- the loop over cells

pub record IsReading {S I : Type 0} (start sets : Sets I) (before now : HeapView S I) (reference : ℕ) (condition : I) (cell : ℕ) (texts : Conditional Answer S I) : Type 0 where
  pub extends : Extends start sets
  pub more : HasMoreTexts before now
  pub is_cond : IsCond answer_cmp sets texts
  pub scope : texts.scope ≡ condition
  pub at : (c : List Bool) → start.test condition c ≡ true → IsTextGiven now.texts (chars_at sets now c reference cell) (answer_at sets texts c)

-- at first there is the empty text
pub IsReading-start : {S I : Type 0} (sets : Sets I) (before now : HeapView S I) (reference : ℕ) (condition : I) (texts : Conditional Answer S I) (number : ℕ) → IsTextPut before [] number now → IsCondOf answer_cmp sets (value_within sets condition (λ _. Some (answer.Give (Text number)))) texts → texts.scope ≡ condition → IsReading sets sets before now reference condition 0 texts
IsReading-start sets before now reference condition texts number put of scope = record {
  extends = Extends-refl sets;
  more = HasMoreTexts-put before now [] number put;
  is_cond = IsCond-of answer_cmp sets (value_within sets condition (λ _. Some (answer.Give (Text number)))) texts of;
  scope = scope;
  at = λ c t. record { number = number; is = one_answer sets condition (answer.Give (Text number)) texts of c t; text = put.text };
}

pub IsReading-step : {S I : Type 0} {s0 s1 s2 : Sets I} (before now after : HeapView S I) (reference : ℕ) (condition : I) (cell : ℕ) (texts made : Conditional Answer S I) → s0.is_known condition ≡ true → IsReading s0 s1 before now reference condition cell texts → Extends s1 s2 → HasMoreTexts now after → IsCond answer_cmp s2 made → made.scope ≡ condition → ((c : List Bool) → s1.test condition c ≡ true → IsTextGiven after.texts (chars_at s2 after c reference (cell + 1)) (answer_at s2 made c)) → IsReading s0 s2 before after reference condition (cell + 1) made
IsReading-step before now after reference condition cell texts made known r e more cond scope at = record {
  extends = Extends-trans r.extends e;
  more = HasMoreTexts-trans before now after r.more more;
  is_cond = cond;
  scope = scope;
  at = λ c t. at c (r.extends.test condition c known ∙ t);
}

-- behind the last cell it is the text of all of them
pub reading_done : {S I : Type 0} (s0 s1 : Sets I) (before now : HeapView S I) (reference : ℕ) (condition : I) (cell : ℕ) (texts : Conditional Answer S I) → IsHeap s0 before → reference < length before.objects → s0.is_known condition ≡ true → IsInside s0 condition (object_in before reference).presence → length (object_in before reference).cells ≤ cell → IsReading s0 s1 before now reference condition cell texts → (c : List Bool) → s0.test condition c ≡ true → IsTextGiven now.texts (chars_at s1 now c reference (length (object_in before reference).cells)) (answer_at s1 texts c)
reading_done s0 s1 before now reference condition cell texts v l known inside enough r c t =
    let cells = cells_later r.extends before now v r.more c reference in
    let number = ap length cells ∙ cells_number s0 before c reference l (inside.inside c t) in
    given_same now.texts _ _ (answer_at s1 texts c) (all_chars s1 now c reference cell (omega (arith, number, enough)) ∙ sym (all_chars s1 now c reference (length (object_in before reference).cells) (omega (arith, number)))) (r.at c t)

-- objects stay where texts are put
pub same_object : {S I : Type 0} (before now : HeapView S I) (r : ℕ) → HasMoreTexts before now → object_in now r ≡ object_in before r
same_object {S = S} {I = I} before now r m = ap (λ (h : HeapView S I). object_in h r) m.same

pub same_count : {S I : Type 0} (before now : HeapView S I) → HasMoreTexts before now → length now.objects ≡ length before.objects
same_count {S = S} {I = I} before now m = ap (λ (h : HeapView S I). length h.objects) m.same

-- ---- what was read

-- the text that is given is that of the array
pub chars_are_read : {S I : Type 0} (sets : Sets I) (heap : HeapView S I) (c : List Bool) (r count : ℕ) (a : Answer) → count ≡ length (cells_of sets heap c r) → IsTextGiven heap.texts (chars_at sets heap c r count) a → IsCharsRead sets heap c (Ref r) (slot_by a)
chars_are_read sets heap c r count a e g = record {
  reading = ap (λ b. value_of sets heap c (slot_by b)) g.is ∙ ap TextValue (g.text.text ∙ all_chars sets heap c r count (omega (arith, e)));
  held = ap (λ b. is_held sets heap c (slot_by b)) g.is ∙ lt-ltb g.number (length heap.texts) g.text.known;
}

nothing_read : {S I : Type 0} (sets : Sets I) (heap : HeapView S I) (c : List Bool) (a : Answer) → a ≡ answer.Pass → (slot_by a ≡ Top) × (is_held sets heap c (slot_by a) ≡ true)
nothing_read sets heap c a e = (ap slot_by e, ap (λ b. is_held sets heap c (slot_by b)) e)

pub no_array_read : {S I : Type 0} (sets : Sets I) (heap : HeapView S I) (c : List Bool) (array : Slot) (a : Answer) → ((r : ℕ) → array ≡ Ref r → ⊥) → a ≡ answer.Pass → IsCharsRead sets heap c array (slot_by a)
no_array_read sets heap c (Ref r) a n e = absurd (n r refl)
no_array_read sets heap c Top a n e = let no_text = nothing_read sets heap c a e in record { reading = no_text.0; held = no_text.1 }
no_array_read sets heap c (Int k) a n e = let no_text = nothing_read sets heap c a e in record { reading = no_text.0; held = no_text.1 }
no_array_read sets heap c (Long k) a n e = let no_text = nothing_read sets heap c a e in record { reading = no_text.0; held = no_text.1 }
no_array_read sets heap c Null a n e = let no_text = nothing_read sets heap c a e in record { reading = no_text.0; held = no_text.1 }
no_array_read sets heap c (Text k) a n e = let no_text = nothing_read sets heap c a e in record { reading = no_text.0; held = no_text.1 }

-- the cells of an array are as many as before where texts are put
pub cells_given_number : {S I : Type 0} {s0 s1 : Sets I} → Extends s0 s1 → (before after : HeapView S I) (c : List Bool) (r : ℕ) → IsHeap s0 before → HasMoreTexts before after → r < length before.objects → s0.test (object_in before r).presence c ≡ true → length (object_in before r).cells ≡ length (cells_of s1 after c r)
cells_given_number {s0 = s0} e before after c r v m l t = sym (ap length (cells_later e before after v m c r) ∙ cells_number s0 before c r l t)

-- a condition inside the presence of an object still is
pub inside_later : {S I : Type 0} {s0 s1 : Sets I} → Extends s0 s1 → (heap : HeapView S I) (reference : ℕ) (condition : I) → IsHeap s0 heap → reference < length heap.objects → s0.is_known condition ≡ true → IsInside s0 condition (object_in heap reference).presence → IsInside s1 condition (object_in heap reference).presence
inside_later {s0 = s0} e heap reference condition v l known h =
    let o = object_in heap reference in
    record { inside = λ c t. e.test o.presence c (is_object_in s0 heap reference o v l refl).known ∙ h.inside c (sym (e.test condition c known) ∙ t) }

-- what was read of an array stays read
chars_stay : {S I : Type 0} {s1 s2 : Sets I} → Extends s1 s2 → (now after : HeapView S I) → IsHeap s1 now → Grows now after → (c : List Bool) (array read : Slot) → globals_at s2 after c ≡ globals_at s1 now c → is_held s1 now c array ≡ true → is_held s1 now c read ≡ true → IsCharsText s1 now c array read → IsCharsText s2 after c array read
chars_stay {S = S} {I = I} {s1 = s1} {s2 = s2} e now after v k c (Ref r) read same there held t =
    value_of-grown e now after v k c read held
    ∙ t
    ∙ (
    let name = name_stays e now after v k c r there in
    λ i. TextValue (map unit_of (item_or ((sym same i).objects) (sym name i) no_object).cells))
chars_stay e now after v k c Top read same there held t = t
chars_stay e now after v k c (Int n) read same there held t = t
chars_stay e now after v k c (Long n) read same there held t = t
chars_stay e now after v k c Null read same there held t = t
chars_stay e now after v k c (Text n) read same there held t = t

-- a cell that was read stays read
cell_stays : {S I : Type 0} {s1 s2 : Sets I} → Extends s1 s2 → (now after : HeapView S I) → IsHeap s1 now → Grows now after → (c : List Bool) (object read : Slot) (cell : ℕ) → globals_at s2 after c ≡ globals_at s1 now c → is_held s1 now c object ≡ true → is_held s1 now c read ≡ true → value_of s1 now c read ≡ cell_of s1 now c object cell → value_of s2 after c read ≡ cell_of s2 after c object cell
cell_stays {S = S} {I = I} {s1 = s1} {s2 = s2} e now after v k c (Ref r) read cell same there held t =
    value_of-grown e now after v k c read held
    ∙ t
    ∙ (
    let name = name_stays e now after v k c r there in
    λ i. item_or (item_or ((sym same i).objects) (sym name i) no_object).cells cell TopValue)
cell_stays e now after v k c Top read cell same there held t = value_of-grown e now after v k c read held ∙ t
cell_stays e now after v k c (Int n) read cell same there held t = value_of-grown e now after v k c read held ∙ t
cell_stays e now after v k c (Long n) read cell same there held t = value_of-grown e now after v k c read held ∙ t
cell_stays e now after v k c Null read cell same there held t = value_of-grown e now after v k c read held ∙ t
cell_stays e now after v k c (Text n) read cell same there held t = value_of-grown e now after v k c read held ∙ t

-- the first value and the second are there
among_held : {S I : Type 0} (sets : Sets I) (heap : HeapView S I) (c : List Bool) (second : Bool) (values : List Slot) → are_held sets heap c values ≡ true → is_held sets heap c (value_among second values) ≡ true
among_held sets heap c false [] t = refl
among_held sets heap c false (a ∷ values) t = both_first (is_held sets heap c a) (are_held sets heap c values) t
among_held sets heap c true [] t = refl
among_held sets heap c true (a ∷ []) t = refl
among_held sets heap c true (a ∷ b ∷ values) t = both_first (is_held sets heap c b) (are_held sets heap c values) (both_second (is_held sets heap c a) (are_held sets heap c (b ∷ values)) t)

-- each reading stays
pub reading_stays : {S I : Type 0} {s1 s2 : Sets I} → Extends s1 s2 → (now after : HeapView S I) → IsHeap s1 now → Grows now after → (c : List Bool) (r : Reading) (values : List Slot) (read : Slot) → globals_at s2 after c ≡ globals_at s1 now c → are_held s1 now c values ≡ true → is_held s1 now c read ≡ true → IsReadingOf s1 now c r values read → IsReadingOf s2 after c r values read
reading_stays {s1 = s1} e now after v k c (reading.Cell second cell) values read same there held t = cell_stays e now after v k c (value_among second values) read cell same (among_held s1 now c second values there) held t
reading_stays {s1 = s1} e now after v k c (reading.Chars second) values read same there held t = chars_stay e now after v k c (value_among second values) read same (among_held s1 now c second values there) held t

pub readings_stay : {S I : Type 0} {s1 s2 : Sets I} → Extends s1 s2 → (now after : HeapView S I) → IsHeap s1 now → Grows now after → (c : List Bool) (rs : List Reading) (values read : List Slot) → globals_at s2 after c ≡ globals_at s1 now c → are_held s1 now c values ≡ true → are_held s1 now c read ≡ true → AreReadings s1 now c rs values read → AreReadings s2 after c rs values read
readings_stay e now after v k c [] values read same there held t = t
readings_stay e now after v k c (r ∷ rs) values [] same there held t = t
readings_stay {s1 = s1} e now after v k c (r ∷ rs) values (x ∷ read) same there held t = (
  reading_stays e now after v k c r values x same there (both_first (is_held s1 now c x) (are_held s1 now c read) held) t.0,
  readings_stay e now after v k c rs values read same there (both_second (is_held s1 now c x) (are_held s1 now c read) held) t.1,
)

-- what was read of a call stays read, over a heap that didn't change there
pub HasReading-grown : {S I : Type 0} {s1 s2 : Sets I} → Extends s1 s2 → (now after : HeapView S I) → IsHeap s1 now → Grows now after → (c : List Bool) (r : Reading) (call : Call) (read : Slot) → globals_at s2 after c ≡ globals_at s1 now c → are_held s1 now c (values_of call) ≡ true → HasReading s1 now c r call read → HasReading s2 after c r call read
HasReading-grown e now after v k c r call read same held h = record {
  reading = reading_stays e now after v k c r (values_of call) read same held h.held h.reading;
  held = is_held-grown e now after v k c read h.held;
}

pub read_law : {S I : Type 0} (r : Reading) → Stays {S = S} {I = I} (IsReadOver r)
read_law r = record {
  stays = λ s1 s2 e now after v k c call a same h. record {
    reading = HasReading-grown e now after v k c r call (slot_by a) same h.held h.reading;
    held = all_kept (is_held s1 now c) (is_held s2 after c) (is_held-grown e now after v k c) (values_of call) h.held;
  };
}
