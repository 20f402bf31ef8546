-- What effects make of the heap, and what their answers come to, at each configuration of a condition.
use Rattle.std.proofs.Common.{◌≡◌, ℕ, ℤ, ◌<◌, Bool, false, true, List, [], ◌∷◌, refl, sym, ◌∙◌, ap, length, map, subst}
use Rattle.std.proofs.lemmas.Bool.{lt-ltb}
use Rattle.std.specs.Prelude.{◌&&◌, None}
use Rattle.vx_cond.specs.Cond.{Conditional, IsCond}
use Rattle.vx_families.proofs.MoreTexts.{Grows-texts, HasMoreTexts-put, HasMoreTexts-refl, IsHeap-texts, globals_at-texts}
use Rattle.vx_families.specs.Texts.{HasMoreTexts}
use Rattle.vx_group_states.proofs.StateLaws.{both_first, both_second}
use Rattle.vx_group_states.specs.Answering.{answer_at, answered, is_answer_held}
use Rattle.vx_group_states.specs.Answers.{answer_cmp}
use Rattle.vx_group_states.specs.Sites.{IsSomewhere}
use Rattle.vx_group_states.specs.declared.answer.Answer.{Answer}
use Rattle.vx_group_states.specs.declared.answer.Answer.TheVariants as answer
use Rattle.vx_families.proofs.NameLaws.{name_stays, new_name_is_next}
use Rattle.vx_heap.proofs.Growing.{Grows-trans, is_held-grown, value_of-grown}
use Rattle.vx_heap.specs.Changing.{IsChangedIn, IsMade, of_cells, with_cell_of, with_object}
use Rattle.vx_heap.specs.Heap.{Globals, HeapView, IsHeap, IsTextPut, globals_at, is_held, name_at, objects_at, value_of}
use Rattle.vx_java.specs.Machine.{Here, Object, Raise, Value, Write, go, past, push_new}
use Rattle.vx_java.specs.Machine.{Int as IntValue, Ref as RefValue, Text as TextValue}
use Rattle.vx_initial_heap.specs.First.{value_in}
use Rattle.vx_link.specs.ClassNames.{array_class, char_element, core_class}
use Rattle.vx_link.specs.declared.program.Program.{Program}
use Rattle.vx_natives.proofs.Keeping.{IsKept-changed, IsKept-refl, IsKept-texts, IsKept-trans}
use Rattle.vx_natives.specs.Chars.{is_text_known}
use Rattle.vx_natives.specs.Deeds.{answers, changes_text, class_raised, deed_of, deed_says, gives_chars, gives_integer, gives_text, prints, raises, sets_cells, sets_text, text_with}
use Rattle.vx_natives.specs.Doing.{IsDone, IsKept, IsSaid, Says, over, said_over}
use Rattle.vx_natives.specs.declared.effect.Effect.{Effect}
use Rattle.vx_natives.specs.declared.effect.Effect.TheVariants as effect
use Rattle.vx_natives.specs.declared.effect.Exception.{Exception}
use Rattle.vx_space.proofs.Spaces.{Extends-refl}
use Rattle.vx_space.specs.Sets.{Extends, Sets}
use Rattle.vx_value.specs.Texts.{IsNumber, text_at}
use Rattle.vx_value.specs.declared.end.Stream.{Stream}
use Rattle.vx_value.specs.declared.ids.ClassId.{ClassId}
use Rattle.vx_value.specs.declared.slot.Slot.{Slot}
use Rattle.vx_value.specs.declared.slot.Slot.TheVariants.{Int, Long, Null, Ref, Text, Top}
use Rattle.vx_effects.specs.Carrying.{IsHeldIn, IsOneDone, is_copy}
use Rattle.vx_effects.specs.Elements.{char_slot}
use Rattle.vx_effects.proofs.Elements.{elements_are}

-- ---- texts

-- a text that is held is known
text_known : {S I : Type 0} (sets : Sets I) (heap : HeapView S I) (c : List Bool) (slot : Slot) → is_held sets heap c slot ≡ true → is_text_known heap.texts slot ≡ true
text_known sets heap c (Text n) t = t
text_known sets heap c Top t = refl
text_known sets heap c (Int n) t = refl
text_known sets heap c (Long n) t = refl
text_known sets heap c Null t = refl
text_known sets heap c (Ref n) t = refl

-- where a slot is no text, its text with units behind it is the units
pub no_text : (texts : List (List ℕ)) (start : Slot) (units : List ℕ) → ((n : ℕ) → start ≡ Text n → ⊥) → text_with texts start units ≡ units
no_text texts (Text n) units other = absurd (other n refl)
no_text texts Top units other = refl
no_text texts (Int n) units other = refl
no_text texts (Long n) units other = refl
no_text texts Null units other = refl
no_text texts (Ref n) units other = refl

-- in a condition in which there is a configuration
pub known_somewhere : {S I : Type 0} (sets : Sets I) (heap : HeapView S I) (condition : I) (slot : Slot) → IsSomewhere sets condition → ((c : List Bool) → sets.test condition c ≡ true → is_held sets heap c slot ≡ true) → is_text_known heap.texts slot ≡ true
known_somewhere sets heap condition slot some held = text_known sets heap some.config slot (held some.config some.inside)

-- ---- nothing changes

pub raised-done : {S I : Type 0} (p : Program) (sets : Sets I) (heap : HeapView S I) (condition : I) (e : Exception) (class : ClassId) (a : Answer) → a ≡ answer.Raise class None → class.0 ≡ core_class p (class_raised e) → IsHeap sets heap → IsOneDone p sets sets heap heap condition (deed_says sets heap (raises e)) a
raised-done p sets heap condition e class a is same v = record {
  kept = IsKept-refl sets heap (sets.test condition) v;
  at = λ c t. record {
    held = ap (is_answer_held sets heap c) is;
    at = λ h rest. ap (λ b. answered sets heap c (over p h (globals_at sets heap c)) rest b) is ∙ ap (λ k. Raise k None (over p h (globals_at sets heap c)).state) same;
  };
}

pub answered-done : {S I : Type 0} (p : Program) (sets : Sets I) (heap : HeapView S I) (condition : I) (a : Answer) → IsHeap sets heap → IsHeldIn sets heap condition (answers a) → IsOneDone p sets sets heap heap condition (deed_says sets heap (answers a)) a
answered-done p sets heap condition a v held = record {
  kept = IsKept-refl sets heap (sets.test condition) v;
  at = λ c t. record { held = held.held c t; at = λ h rest. refl };
}

-- ---- a text is written

pub printed-done : {S I : Type 0} (p : Program) (sets : Sets I) (before after : HeapView S I) (condition : I) (stream : Stream) (start : Slot) (units : List ℕ) (number : ℕ) → IsHeap sets before → IsTextPut before (text_with before.texts start units) number after → IsOneDone p sets sets before after condition (deed_says sets before (prints stream start units)) (answer.Write stream number)
printed-done p sets before after condition stream start units number v put =
    let more = HasMoreTexts-put before after (text_with before.texts start units) number put in
    record {
      kept = IsKept-texts sets before after (sets.test condition) v more;
      at = λ c t. record {
        held = lt-ltb number (length after.texts) put.text.known;
        at = λ h rest.
            let globals = globals_at-texts sets before after more v c in
            λ i. Write stream (put.text.text i) (past (over p h (globals i)) (over p h (globals i)).state rest);
      };
    }

-- ---- an object is made and given

module _ {S I : Type 0} (p : Program) (sets : Sets I) (before middle after : HeapView S I) (condition : I) (object : Object) (reference : ℕ) (v : IsHeap sets before) (more : HasMoreTexts before middle) (w : IsHeap sets middle) (made : IsMade sets middle condition object after reference) where
  made_kept : IsKept sets sets before after (sets.test condition)
  made_kept = IsKept-trans sets sets sets before middle after (sets.test condition) (IsKept-texts sets before middle (sets.test condition) v more) (IsKept-changed sets sets middle after (sets.test condition) (λ _. with_object object) made.changed)

  made_globals : (c : List Bool) → sets.test condition c ≡ true → globals_at sets after c ≡ with_object object (globals_at sets before c)
  made_globals c t = made.changed.inside c t ∙ ap (with_object object) (globals_at-texts sets before middle more v c)

  made_name : (c : List Bool) → name_at sets after.objects c reference ≡ length (objects_at sets before c)
  made_name c =
      ap (name_at sets after.objects c) made.reference_is
      ∙ new_name_is_next sets sets middle after (Extends-refl sets) w made.changed.grows c
      ∙ ap (λ (g : Globals). length g.objects) (globals_at-texts sets before middle more v c)

  pub made-done : (says : Says) → ((c : List Bool) (h : Here) (rest : List Value) → push_new (over p h (globals_at sets before c)) object rest ≡ said_over p sets before says c h rest) → IsOneDone p sets sets before after condition says (answer.Give (Ref reference))
  made-done says same = record {
    kept = made_kept;
    at = λ c t. record {
      held = made.held c t;
      at = λ h rest.
          let globals = made_globals c t in
          let name = made_name c in
          (λ i. go (over p h (globals i)) (RefValue (name i) ∷ rest)) ∙ same c h rest;
    };
  }

-- ---- the first cell of an object gets a text

module _ {S I : Type 0} (p : Program) {s0 s1 : Sets I} (e : Extends s0 s1) (before middle after : HeapView S I) (condition : I) (r number : ℕ) (start : Slot) (units : List ℕ) (v : IsHeap s0 before) (put : IsTextPut before (text_with before.texts start units) number middle) (held : (c : List Bool) → s0.test condition c ≡ true → is_held s0 before c (Ref r) ≡ true) (changed : IsChangedIn s0 s1 middle after (s0.test condition) (λ c. with_cell_of (name_at s0 middle.objects c r) 0 (value_of s0 middle c (Text number)))) where
  more : HasMoreTexts before middle
  more = HasMoreTexts-put before middle (text_with before.texts start units) number put

  set_kept : IsKept s0 s1 before after (s0.test condition)
  set_kept = IsKept-trans s0 s0 s1 before middle after (s0.test condition) (IsKept-texts s0 before middle (s0.test condition) v more) (IsKept-changed s0 s1 middle after (s0.test condition) _ changed)

  set_globals : (c : List Bool) → s0.test condition c ≡ true → globals_at s1 after c ≡ with_cell_of (name_at s0 before.objects c r) 0 (TextValue (text_with before.texts start units)) (globals_at s0 before c)
  set_globals c t =
      let name = ap (λ (h : HeapView S I). name_at s0 h.objects c r) more.same in
      let globals = globals_at-texts s0 before middle more v c in
      changed.inside c t ∙ (λ i. with_cell_of (name i) 0 (TextValue (put.text.text i)) (globals i))

  pub set-done : IsOneDone p s0 s1 before after condition (deed_says s0 before (sets_text r start units)) answer.Pass
  set-done = record {
    kept = set_kept;
    at = λ c t. record { held = refl; at = λ h rest. ap (λ (g : Globals). go (over p h g) rest) (set_globals c t) };
  }

  pub changed-done : IsOneDone p s0 s1 before after condition (deed_says s0 before (changes_text r start units)) (answer.Give (Ref r))
  changed-done = record {
    kept = set_kept;
    at = λ c t. record {
      held = is_held-grown e before after v set_kept.grows c (Ref r) (held c t);
      at = λ h rest.
          let globals = set_globals c t in
          let name = name_stays e before after v set_kept.grows c r (held c t) in
          λ i. go (over p h (globals i)) (RefValue (name i) ∷ rest);
    };
  }

-- ---- the first two cells of an object get values

module _ {S I : Type 0} {s0 s1 : Sets I} (e : Extends s0 s1) (before middle : HeapView S I) (condition : I) (r : ℕ) (x y : Slot) (v : IsHeap s0 before) (known : s0.is_known condition ≡ true) (held : IsHeldIn s0 before condition (sets_cells r x y)) (first : IsChangedIn s0 s1 before middle (s0.test condition) (λ c. with_cell_of (name_at s0 before.objects c r) 0 (value_of s0 before c x))) where
  object_held : (c : List Bool) → s0.test condition c ≡ true → is_held s0 before c (Ref r) ≡ true
  object_held c t = both_first (is_held s0 before c (Ref r)) (is_held s0 before c x && is_held s0 before c y) (held.held c t)

  values_held : (c : List Bool) → s0.test condition c ≡ true → (is_held s0 before c x && is_held s0 before c y) ≡ true
  values_held c t = both_second (is_held s0 before c (Ref r)) (is_held s0 before c x && is_held s0 before c y) (held.held c t)

  earlier : (c : List Bool) → s1.test condition c ≡ true → s0.test condition c ≡ true
  earlier c t = sym (e.test condition c known) ∙ t

  -- for the second write
  pub object_still : (c : List Bool) → s1.test condition c ≡ true → is_held s1 middle c (Ref r) ≡ true
  object_still c t = is_held-grown e before middle v first.grows c (Ref r) (object_held c (earlier c t))

  pub second_still : (c : List Bool) → s1.test condition c ≡ true → is_held s1 middle c y ≡ true
  second_still c t = is_held-grown e before middle v first.grows c y (both_second (is_held s0 before c x) (is_held s0 before c y) (values_held c (earlier c t)))

  pub cells-done : {s2 : Sets I} (p : Program) (after : HeapView S I) → IsChangedIn s1 s2 middle after (s1.test condition) (λ c. with_cell_of (name_at s1 middle.objects c r) 1 (value_of s1 middle c y)) → IsOneDone p s0 s2 before after condition (deed_says s0 before (sets_cells r x y)) answer.Pass
  cells-done {s2 = s2} p after second = record {
    kept = record {
      is_heap = second.is_heap;
      grows = Grows-trans before middle after first.grows second.grows;
      keeps = λ q w. second.keeps q (first.keeps q w);
      outside = λ c t. second.outside c (e.test condition c known ∙ t) ∙ first.outside c t;
    };
    at = λ c t. record {
      held = refl;
      at = λ h rest.
          let name = name_stays e before middle v first.grows c r (object_held c t) in
          let value = value_of-grown e before middle v first.grows c y (both_second (is_held s0 before c x) (is_held s0 before c y) (values_held c t)) in
          let last : globals_at s2 after c ≡ with_cell_of (name_at s0 before.objects c r) 1 (value_of s0 before c y) (with_cell_of (name_at s0 before.objects c r) 0 (value_of s0 before c x) (globals_at s0 before c)) =
          second.inside c (e.test condition c known ∙ t) ∙ (λ i. with_cell_of (name i) 1 (value i) (first.inside c t i)) in
          ap (λ (g : Globals). go (over p h g) rest) last;
    };
  }

pub object_of_cells : {S I : Type 0} (sets : Sets I) (heap : HeapView S I) (condition : I) (r : ℕ) (x y : Slot) → IsHeldIn sets heap condition (sets_cells r x y) → (c : List Bool) → sets.test condition c ≡ true → is_held sets heap c (Ref r) ≡ true
object_of_cells sets heap condition r x y held c t = both_first (is_held sets heap c (Ref r)) (is_held sets heap c x && is_held sets heap c y) (held.held c t)

pub first_of_cells : {S I : Type 0} (sets : Sets I) (heap : HeapView S I) (condition : I) (r : ℕ) (x y : Slot) → IsHeldIn sets heap condition (sets_cells r x y) → (c : List Bool) → sets.test condition c ≡ true → is_held sets heap c x ≡ true
first_of_cells sets heap condition r x y held c t = both_first (is_held sets heap c x) (is_held sets heap c y) (both_second (is_held sets heap c (Ref r)) (is_held sets heap c x && is_held sets heap c y) (held.held c t))

-- ---- which object is made

-- a string
pub text_made-done : {S I : Type 0} (p : Program) (sets : Sets I) (before middle after : HeapView S I) (condition : I) (start : Slot) (units : List ℕ) (number : ℕ) (class : ClassId) (reference : ℕ) → IsHeap sets before → IsTextPut before (text_with before.texts start units) number middle → class.0 ≡ core_class p "java/lang/String" → sets.is_known condition ≡ true → (IsHeap sets middle → sets.is_known condition ≡ true → IsMade sets middle condition (of_cells class.0 0 (TextValue (text_at middle.texts number) ∷ [])) after reference) → IsOneDone p sets sets before after condition (deed_says sets before (gives_text start units)) (answer.Give (Ref reference))
text_made-done p sets before middle after condition start units number class reference v put same known made =
    let more = HasMoreTexts-put before middle (text_with before.texts start units) number put in
    let w = IsHeap-texts sets before middle more v in
    made-done p sets before middle after condition (of_cells class.0 0 (TextValue (text_at middle.texts number) ∷ [])) reference v more w (made w known) (deed_says sets before (gives_text start units))
    (λ c h rest i. push_new (over p h (globals_at sets before c)) (of_cells (same i) 0 (TextValue (put.text.text i) ∷ [])) rest)

-- an array of chars
pub chars_made-done : {S I : Type 0} (p : Program) (sets : Sets I) (before after : HeapView S I) (condition : I) (units : List ℕ) (slots : List Slot) (size : ℕ) (class : ClassId) (reference : ℕ) → IsHeap sets before → slots ≡ map char_slot units → size ≡ length units → class.0 ≡ array_class p 1 char_element → sets.is_known condition ≡ true → (IsHeap sets before → sets.is_known condition ≡ true → IsMade sets before condition (of_cells class.0 size (map (value_in before.texts) slots)) after reference) → IsOneDone p sets sets before after condition (deed_says sets before (gives_chars units)) (answer.Give (Ref reference))
chars_made-done p sets before after condition units slots size class reference v are number same known made =
    let cells = ap (map (value_in before.texts)) are ∙ elements_are before.texts units in
    made-done p sets before before after condition (of_cells class.0 size (map (value_in before.texts) slots)) reference v (HasMoreTexts-refl before) v (made v known) (deed_says sets before (gives_chars units))
    (λ c h rest i. push_new (over p h (globals_at sets before c)) (of_cells (same i) (number i) (cells i)) rest)

-- an Integer
pub integer_made-done : {S I : Type 0} (p : Program) (sets : Sets I) (before after : HeapView S I) (condition : I) (n : ℤ) (class : ClassId) (reference : ℕ) → IsHeap sets before → class.0 ≡ core_class p "java/lang/Integer" → sets.is_known condition ≡ true → (IsHeap sets before → sets.is_known condition ≡ true → IsMade sets before condition (of_cells class.0 0 (IntValue n ∷ [])) after reference) → IsOneDone p sets sets before after condition (deed_says sets before (gives_integer n)) (answer.Give (Ref reference))
integer_made-done p sets before after condition n class reference v same known made =
    made-done p sets before before after condition (of_cells class.0 0 (IntValue n ∷ [])) reference v (HasMoreTexts-refl before) v (made v known) (deed_says sets before (gives_integer n))
    (λ c h rest i. push_new (over p h (globals_at sets before c)) (of_cells (same i) 0 (IntValue n ∷ [])) rest)

-- ---- texts that are set

module _ {S I : Type 0} (sets : Sets I) (heap : HeapView S I) (condition : I) (r : ℕ) (start : Slot) (units : List ℕ) (held : IsHeldIn sets heap condition (sets_text r start units)) (c : List Bool) (t : sets.test condition c ≡ true) where
  pub object_of_text : is_held sets heap c (Ref r) ≡ true
  object_of_text = both_first (is_held sets heap c (Ref r)) (is_held sets heap c start) (held.held c t)

  pub start_of_text : is_held sets heap c start ≡ true
  start_of_text = both_second (is_held sets heap c (Ref r)) (is_held sets heap c start) (held.held c t)

-- an object is there over more texts
pub object_later : {S I : Type 0} (sets : Sets I) (before after : HeapView S I) (condition : I) (r : ℕ) → HasMoreTexts before after → IsHeap sets before → ((c : List Bool) → sets.test condition c ≡ true → is_held sets before c (Ref r) ≡ true) → (c : List Bool) → sets.test condition c ≡ true → is_held sets after c (Ref r) ≡ true
object_later sets before after condition r more v held c t = is_held-grown (Extends-refl sets) before after v (Grows-texts before after more) c (Ref r) (held c t)

-- a text that was put is there
pub number_held : {S I : Type 0} (sets : Sets I) (heap : HeapView S I) (c : List Bool) (number : ℕ) (units : List ℕ) → IsNumber heap.texts number units → is_held sets heap c (Text number) ≡ true
number_held sets heap c number units n = lt-ltb number (length heap.texts) n.known

-- ---- one answer in all configurations of the condition

pub one-done : {S I : Type 0} (p : Program) {s0 s1 : Sets I} → Extends s0 s1 → (before after : HeapView S I) (condition : I) (says : Says) (a : Answer) (answers : Conditional Answer S I) → s0.is_known condition ≡ true → IsOneDone p s0 s1 before after condition says a → IsCond answer_cmp s1 answers → answers.scope ≡ condition → ((c : List Bool) → s1.test condition c ≡ true → answer_at s1 answers c ≡ a) → IsDone p s0 s1 before after condition says answers
one-done p {s0 = s0} {s1 = s1} e before after condition says a made known done v scope one = record {
  kept = done.kept;
  is_cond = v;
  scope = scope;
  at = λ c t.
      let P : Answer → Type 0 = IsSaid p s1 after c (said_over p s0 before says c) in
      subst P (sym (one c (e.test condition c known ∙ t))) (done.at c t);
}

-- the class of what is raised
pub class_of_raised : (p : Program) (e other : Exception) (class : ℕ) → e ≡ other → class ≡ core_class p (class_raised other) → class ≡ core_class p (class_raised e)
class_of_raised p e other class is same = same ∙ ap (λ x. core_class p (class_raised x)) (sym is)

-- ---- which effect it is

pub not_copy : (e : Effect) → ((array from other to count : ℕ) → e ≡ effect.Copy array from other to count → ⊥) → is_copy (deed_of e) ≡ false
not_copy (effect.Copy array from other to count) any = absurd (any array from other to count refl)
not_copy (effect.Answer a) any = refl
not_copy (effect.Raise e) any = refl
not_copy (effect.GiveText start units) any = refl
not_copy (effect.GiveChars units) any = refl
not_copy (effect.GiveInteger n) any = refl
not_copy (effect.Print stream start units) any = refl
not_copy (effect.SetText r start units) any = refl
not_copy (effect.ChangeText r start units) any = refl
not_copy (effect.SetCells r a b) any = refl
