-- Stores of elements: the values that are written and where, and from what each configuration is answered to the attempt.
use Rattle.std.proofs.Common.{◌≡◌, ◌<◌, Bool, true, false, List, [], ◌∷◌, ◌&&◌, refl, sym, ◌∙◌, ap, subst, arith, drop, length, map, if◌then◌else◌}
use Rattle.std.specs.Prelude.{Option, None, Some, unwrap_or}
use Rattle.vx_families.proofs.Tops.{made_of_two, value_there}
use Rattle.vx_cells.specs.Places.{place_cmp}
use Rattle.vx_cells.specs.Through.{ArePlacesHeld, AreAnswers, IsAnswered, IsPass, by_place, is_cell, is_place_held, place_at, written_at, written_through}
use Rattle.vx_cells.specs.declared.place.Place.{Place}
use Rattle.vx_cells.specs.declared.place.Place.TheVariants as place
use Rattle.vx_cond.specs.Cond.{Conditional, IsCond, IsCondLifting, IsCondLifting2, cond_at}
use Rattle.vx_cond.specs.Leaves.{IsLifted}
use Rattle.vx_cond.specs.Slots.{or_top, slot_at}
use Rattle.vx_cond.proofs.CondLaws.{IsCond-extends, cond_at-extends}
use Rattle.vx_families.specs.Attempts.{IsAttemptBy, IsGiven, row_by}
use Rattle.vx_families.specs.Texts.{HasMoreTexts}
use Rattle.vx_families.proofs.Given.{given_operands_held}
use Rattle.vx_families.proofs.MoreTexts.{Grows-texts, IsHeap-texts, IsHeapFor-texts, globals_at-texts}
use Rattle.vx_group.specs.Group.{GroupView, IsGroup, path_of}
use Rattle.vx_group.specs.declared.callers.Caller.{Caller}
use Rattle.vx_group.proofs.CallerLaws.{Keeps-refl}
use Rattle.vx_group.proofs.GroupLaws.{IsGroup-path_known}
use Rattle.vx_group_states.specs.Answering.{AreHeld, answer_at, answered, answered_by, operands_at}
use Rattle.vx_group_states.specs.Sites.{GivesAt, here}
use Rattle.vx_group_states.specs.Stands.{state_at}
use Rattle.vx_group_states.specs.declared.answer.Answer.{Answer}
use Rattle.vx_group_states.specs.declared.site.Site.{Site}
use Rattle.vx_group_states.proofs.GrownStates.{Grows-trans, StandsIn-grown}
use Rattle.vx_group_states.proofs.Operands.{item_held, length-operands}
use Rattle.vx_group_states.proofs.SettleLaws.{lifting_at}
use Rattle.vx_families.specs.Changing.{changed_in, with_globals}
use Rattle.vx_families.proofs.ChangeLaws.{attempts_follow}
use Rattle.vx_heap.specs.Changing.{IsChangedIn, IsValueHeld, with_cell_of}
use Rattle.vx_heap.specs.Heap.{Globals, HeapView, IsHeap, are_held, globals_at, is_held, name_at, objects_at, value_of}
use Rattle.vx_heap.proofs.HeapLaws.{IsHeap-extends, globals_at-extends, is_held-extends, name_at-extends, value_of-extends}
use Rattle.vx_java.specs.Arrays.{store_element}
use Rattle.vx_java.specs.Machine.{Go, Here, Raise, State, Value, illegal, past, with_cell}
use Rattle.vx_java.specs.Machine.{Int as IntValue, Long as LongValue, Null as NullValue, Ref as RefValue, Text as TextValue, Top as TopValue}
use Rattle.vx_java.specs.declared.operation.Element.{Element}
use Rattle.vx_java.specs.declared.operation.Element.TheVariants.{Bytes, Chars, Ints, Longs, References, Shorts}
use Rattle.vx_java.specs.declared.operation.Operation.TheVariants.{StoreElement}
use Rattle.vx_link.specs.ClassNames.{core_class}
use Rattle.vx_list.specs.Places.{item_or}
use Rattle.vx_outcome.specs.declared.outcome.Outcome.{Outcome as SharedOutcome}
use Rattle.vx_ready.proofs.Going.{operands_later}
use Rattle.vx_ready.proofs.Rows.{globals_of}
use Rattle.vx_ready.specs.Running.{IsRunning}
use Rattle.vx_space.specs.Sets.{Extends, Sets}
use Rattle.vx_space.proofs.Spaces.{Extends-trans}
use Rattle.vx_value.specs.Slot.{slot_cmp}
use Rattle.vx_value.specs.declared.slot.Slot.{Slot}
use Rattle.vx_value.specs.declared.slot.Slot.TheVariants.{Top, Int, Long, Null, Ref, Text}
use Rattle.vx_arrays.specs.Elements.{element_place, kept, stored_place, written_place}
use Rattle.vx_arrays.specs.Moving.{AreStored, AreWritten, change_there, place_there, writes_there}
use Rattle.vx_arrays.proofs.ElementRows.{kept_row, store_row}
use Rattle.vx_arrays.proofs.Operands.{operand_held, places_held}
use Rattle.vx_arrays.proofs.Placed.{element_held, no_cell, pass_held, placed_held, stored_held}

-- ---- what is written names what is there

kept_held : {S I : Type 0} (sets : Sets I) (heap : HeapView S I) (c : List Bool) (e : Element) (slot : Slot) → is_held sets heap c (kept e slot) ≡ is_held sets heap c slot
kept_held sets heap c Ints slot = refl
kept_held sets heap c Longs slot = refl
kept_held sets heap c References slot = refl
kept_held sets heap c Bytes Top = refl
kept_held sets heap c Bytes (Int n) = refl
kept_held sets heap c Bytes (Long n) = refl
kept_held sets heap c Bytes Null = refl
kept_held sets heap c Bytes (Ref r) = refl
kept_held sets heap c Bytes (Text n) = refl
kept_held sets heap c Chars Top = refl
kept_held sets heap c Chars (Int n) = refl
kept_held sets heap c Chars (Long n) = refl
kept_held sets heap c Chars Null = refl
kept_held sets heap c Chars (Ref r) = refl
kept_held sets heap c Chars (Text n) = refl
kept_held sets heap c Shorts Top = refl
kept_held sets heap c Shorts (Int n) = refl
kept_held sets heap c Shorts (Long n) = refl
kept_held sets heap c Shorts Null = refl
kept_held sets heap c Shorts (Ref r) = refl
kept_held sets heap c Shorts (Text n) = refl

-- and where
pub there_held : {S I : Type 0} (site : Site) (e : Element) (sets : Sets I) (heap : HeapView S I) (group : GroupView S I) → IsRunning site sets heap group → (c : List Bool) → sets.test (path_of group) c ≡ true → is_place_held sets heap c (place_there site e sets heap group c) ≡ true
there_held site e sets heap group r c t =
    let slots = operands_at sets group.top.stack c in
    stored_held sets heap c site.program.now e (item_or slots 0 Top) (element_place site.program.now heap e (item_or slots 1 Top) (item_or slots 2 Top)) (element_held sets heap c site.program.now e (item_or slots 1 Top) (item_or slots 2 Top) (operand_held site sets heap group 2 r c t))

-- ---- the places and the values

-- where a store writes, as it is made of the value and of the element's place
pub written_there : {S I : Type 0} (site : Site) (e : Element) {s0 s1 : Sets I} (s2 : Sets I) (heap : HeapView S I) (group : GroupView S I) (value : Conditional Slot S I) (places stored : Conditional Place S I) (R : Slot → Place → Place → Type 0) → IsGroup s0 group → Extends s0 s1 → IsCond slot_cmp s0 value → ((c : List Bool) → s0.test (path_of group) c ≡ true → cond_at s0 value c ≡ Some (item_or (operands_at s0 group.top.stack c) 0 Top)) → IsCond place_cmp s1 places → places.scope ≡ path_of group → ((c : List Bool) → s0.test (path_of group) c ≡ true → place_at s1 places c ≡ element_place site.program.now heap e (item_or (operands_at s0 group.top.stack c) 1 Top) (item_or (operands_at s0 group.top.stack c) 2 Top)) → ((s : Slot) (x y : Place) → R s x y → y ≡ stored_place site.program.now heap e s x) → IsCondLifting2 place_cmp s2 R (cond_at s1 value) (cond_at s1 places) stored → (c : List Bool) → s0.test (path_of group) c ≡ true → place_at s2 stored c ≡ place_there site e s0 heap group c
written_there site e {s0 = s0} {s1 = s1} s2 heap group value places stored R alone e01 v value_at w scope at law lifting c t =
    let inside : s1.test places.scope c ≡ true = ap (λ i. s1.test i c) scope ∙ e01.test (path_of group) c (IsGroup-path_known s0 group alone) ∙ t in
    made_of_two place.Illegal place_cmp s1 s2 R (stored_place site.program.now heap e) value places stored c _ _ law (cond_at-extends slot_cmp e01 value v c ∙ value_at c t) (value_there place.Illegal place_cmp s1 places c w inside ∙ ap Some (at c t)) lifting

-- what it keeps of a value
kept_one : (e : Element) (R : Slot → Slot → Type 0) (s r : Option Slot) (x : Slot) → ((s r : Slot) → R s r → r ≡ kept e s) → s ≡ Some x → IsLifted R s r → or_top r ≡ kept e x
kept_one e R None r x law is l = cc is
kept_one e R (Some s) None x law is l = absurd l
kept_one e R (Some s) (Some r) x law is l =
    let same : s ≡ x = cc in
    law s r l ∙ ap (kept e) same

pub kept_there : {S I : Type 0} (e : Element) (s0 s1 : Sets I) (value values : Conditional Slot S I) (R : Slot → Slot → Type 0) (c : List Bool) (x : Slot) → ((s r : Slot) → R s r → r ≡ kept e s) → cond_at s0 value c ≡ Some x → IsCondLifting slot_cmp s1 R (cond_at s0 value) values → slot_at s1 values c ≡ kept e x
kept_there e s0 s1 value values R c x law is l = kept_one e R (cond_at s0 value c) (cond_at s1 values c) x law is (lifting_at slot_cmp s1 R (cond_at s0 value) values l c)

-- ---- changes over an earlier space, and before texts

changed-as : {S I : Type 0} {s0 s1 : Sets I} (s2 : Sets I) → Extends s0 s1 → (before after : HeapView S I) → IsHeap s0 before → (set other : List Bool → Bool) (change made : List Bool → Globals → Globals) → ((c : List Bool) → set c ≡ other c) → ((c : List Bool) → other c ≡ true → (g : Globals) → change c g ≡ made c g) → IsChangedIn s1 s2 before after set change → IsChangedIn s0 s2 before after other made
changed-as {s0 = s0} s2 e before after v set other change made same law h = record {
  is_heap = h.is_heap;
  grows = h.grows;
  keeps = h.keeps;
  inside = λ c t. h.inside c (same c ∙ t) ∙ ap (change c) (globals_at-extends e before v c) ∙ law c t (globals_at s0 before c);
  outside = λ c t. h.outside c (same c ∙ t) ∙ globals_at-extends e before v c;
}

changed-texts : {S I : Type 0} {s0 s1 s2 : Sets I} → Extends s1 s2 → (before middle after : HeapView S I) (set : List Bool → Bool) (change : List Bool → Globals → Globals) → HasMoreTexts middle after → IsChangedIn s0 s1 before middle set change → IsChangedIn s0 s2 before after set change
changed-texts {s1 = s1} {s2 = s2} e before middle after set change m h =
    let v = IsHeap-extends e middle h.is_heap in
    let same : (c : List Bool) → globals_at s2 after c ≡ globals_at s1 middle c = λ c. globals_at-texts s2 middle after m v c ∙ globals_at-extends e middle h.is_heap c in
    record {
      is_heap = IsHeap-texts s2 middle after m v;
      grows = Grows-trans before middle after h.grows (Grows-texts middle after m);
      keeps = λ p k. IsHeapFor-texts p middle after m (h.keeps p k);
      inside = λ c t. same c ∙ h.inside c t;
      outside = λ c t. same c ∙ h.outside c t;
    }

-- ---- what was written

written_at-extends : {S I : Type 0} {s0 s1 : Sets I} → Extends s0 s1 → (heap : HeapView S I) → IsHeap s0 heap → (c : List Bool) (value : Value) (x : Place) (g : Globals) → written_at s1 heap c value x g ≡ written_at s0 heap c value x g
written_at-extends e heap v c value place.Illegal g = refl
written_at-extends e heap v c value place.Null g = refl
written_at-extends e heap v c value (place.Outside i) g = refl
written_at-extends e heap v c value place.Refused g = refl
written_at-extends e heap v c value (place.At r k) g = ap (λ n. with_cell_of n k value g) (name_at-extends e heap v c r)

module _ {S I : Type 0} (site : Site) (e : Element) {s0 s1 s2 : Sets I} (before : HeapView S I) (group : GroupView S I) (places : Conditional Place S I) (values : Conditional Slot S I) (r : IsRunning site s0 before group) (e01 : Extends s0 s1) (e12 : Extends s1 s2) (w : IsCond place_cmp s1 places) (scope : places.scope ≡ path_of group) (at : (c : List Bool) → s0.test (path_of group) c ≡ true → place_at s1 places c ≡ place_there site e s0 before group c) (value_scope : values.scope ≡ path_of group) (value_at : (c : List Bool) → s1.test (path_of group) c ≡ true → slot_at s2 values c ≡ kept e (item_or (operands_at s1 group.top.stack c) 0 Top)) where
  first : (c : List Bool) → s1.test (path_of group) c ≡ s0.test (path_of group) c
  first c = e01.test (path_of group) c (IsGroup-path_known s0 group r.is_group)

  path_later : (c : List Bool) → s2.test (path_of group) c ≡ s0.test (path_of group) c
  path_later c = (Extends-trans e01 e12).test (path_of group) c (IsGroup-path_known s0 group r.is_group)

  places_later : (c : List Bool) → place_at s2 places c ≡ place_at s1 places c
  places_later c = ap (λ o. unwrap_or o place.Illegal) (cond_at-extends place_cmp e12 places w c)

  there_later : (c : List Bool) → s0.test (path_of group) c ≡ true → place_at s2 places c ≡ place_there site e s0 before group c
  there_later c t = places_later c ∙ at c t

  pub places_held_later : ArePlacesHeld s2 before places
  places_held_later = places_held (Extends-trans e01 e12) before r.is_heap group r.is_group places (place_there site e s0 before group) scope there_later (there_held site e s0 before group r)

  value_is : (c : List Bool) → s0.test (path_of group) c ≡ true → slot_at s2 values c ≡ kept e (item_or (operands_at s0 group.top.stack c) 0 Top)
  value_is c t = value_at c (first c ∙ t) ∙ ap (λ slots. kept e (item_or slots 0 Top)) (operands_later e01 group r.is_group c)

  pub values_held : IsValueHeld s2 before values
  values_held = record {
    held = λ c t.
        let inside : s0.test (path_of group) c ≡ true = sym (path_later c) ∙ ap (λ i. s2.test i c) (sym value_scope) ∙ t in
        ap (is_held s2 before c) (value_is c inside)
        ∙ is_held-extends (Extends-trans e01 e12) before r.is_heap c (kept e (item_or (operands_at s0 group.top.stack c) 0 Top))
        ∙ kept_held s0 before c e (item_or (operands_at s0 group.top.stack c) 0 Top)
        ∙ operand_held site s0 before group 0 r c inside;
  }

  same_set : (c : List Bool) → is_cell (place_at s2 places c) ≡ writes_there site e s0 before group c
  same_set c = cases (s0.test (path_of group) c) refl
    where
      cases : (b : Bool) → s0.test (path_of group) c ≡ b → is_cell (place_at s2 places c) ≡ (b && is_cell (place_there site e s0 before group c))
      cases true t = ap is_cell (there_later c t)
      cases false t = no_cell s2 places c (IsCond-extends place_cmp e12 places w) (ap (λ i. s2.test i c) scope ∙ path_later c ∙ t)

  in_path : (c : List Bool) → writes_there site e s0 before group c ≡ true → s0.test (path_of group) c ≡ true
  in_path c t = cases (s0.test (path_of group) c) (is_cell (place_there site e s0 before group c)) t
    where
      cases : (a b : Bool) → (a && b) ≡ true → a ≡ true
      cases true b h = refl
      cases false b h = cc h

  pub written-made : {s3 : Sets I} (after : HeapView S I) → Extends s2 s3 → IsChangedIn s2 s3 before after (λ c. is_cell (place_at s2 places c)) (written_through s2 before places values) → AreWritten site e s0 s3 before after group places
  written-made {s3 = s3} after e23 changed =
      let e02 = Extends-trans e01 e12 in
      let e13 = Extends-trans e12 e23 in
      record {
        changed = changed-as s3 e02 before after r.is_heap (λ c. is_cell (place_at s2 places c)) (writes_there site e s0 before group) (written_through s2 before places values) (change_there site e s0 before group) same_set (λ c t g.
            let inside = in_path c t in
            (λ i. written_at s2 before c (value_of s2 before c (value_is c inside i)) (there_later c inside i) g)
            ∙ ap (λ v. written_at s2 before c v (place_there site e s0 before group c) g) (value_of-extends e02 before r.is_heap c (kept e (item_or (operands_at s0 group.top.stack c) 0 Top)))
            ∙ written_at-extends e02 before r.is_heap c _ (place_there site e s0 before group c) g) changed;
        is_cond = IsCond-extends place_cmp e13 places w;
        scope = scope;
        at = λ c t. ap (λ o. unwrap_or o place.Illegal) (cond_at-extends place_cmp e13 places w c) ∙ at c t;
      }

-- then texts were put for the answers
pub stored-made : {S I : Type 0} (site : Site) (e : Element) {s0 s1 s2 : Sets I} (before middle after : HeapView S I) (group : GroupView S I) (places : Conditional Place S I) (answers : Conditional Answer S I) → IsRunning site s0 before group → Extends s0 s1 → Extends s1 s2 → AreWritten site e s0 s1 before middle group places → HasMoreTexts middle after → AreAnswers site.program.now s1 s2 after (λ _. IsPass) places answers → AreStored site e s0 s2 before after group answers
stored-made site e {s0 = s0} {s1 = s1} {s2 = s2} before middle after group places answers r e01 e12 w m a = record {
  changed = changed-texts e12 before middle after (writes_there site e s0 before group) (change_there site e s0 before group) m w.changed;
  is_cond = a.is_cond;
  scope = a.scope ∙ w.scope;
  at = λ c t.
      let inside : s1.test places.scope c ≡ true = ap (λ i. s1.test i c) w.scope ∙ e01.test (path_of group) c (IsGroup-path_known s0 group r.is_group) ∙ t in
      let P : Place → Type 0 = λ x. IsAnswered site.program.now after IsPass x (answer_at s2 answers c) in
      subst P (w.at c t) (a.at c inside);
}

-- ---- one configuration

-- what comes of a place where a value was written, over the state in which it was
passed_row : {S I : Type 0} (site : Site) (sets later : Sets I) (before after : HeapView S I) (c : List Bool) (state : State) (value : Value) (rest : List Value) (x : Place) (a : Answer) → IsAnswered site.program.now after IsPass x a → answered later after c (here site (with_globals state (if is_cell x then written_at sets before c value x (globals_of state) else globals_of state))) rest a ≡ by_place sets before c (here site state) (λ r k. Go (past (here site state) (with_cell state r k value) rest)) x
passed_row site sets later before after c state value rest place.Illegal a is = ap (answered later after c (here site state) rest) is
passed_row site sets later before after c state value rest place.Null a is = ap (answered later after c (here site state) rest) is
passed_row site sets later before after c state value rest (place.Outside i) a is =
    ap (answered later after c (here site state) rest) is.is
    ∙ ap (λ units. Raise (core_class site.program.now "java/lang/ArrayIndexOutOfBoundsException") (Some units) state) is.number.text
passed_row site sets later before after c state value rest place.Refused a is = ap (answered later after c (here site state) rest) is
passed_row site sets later before after c state value rest (place.At r k) a is =
    ap (answered later after c (here site (with_globals state (with_cell_of (name_at sets before.objects c r) k value (globals_of state)))) rest) is

module _ {S I : Type 0} (site : Site) (e : Element) (sets later : Sets I) (before after : HeapView S I) (c : List Bool) (state : State) (over : state.heap ≡ objects_at sets before c) where
  stored_row : (slots : List Slot) (a : Answer) → 2 < length slots → are_held sets before c slots ≡ true → IsAnswered site.program.now after IsPass (written_place site.program.now before e slots) a → answered later after c (here site (with_globals state (if is_cell (written_place site.program.now before e slots) then written_at sets before c (value_of sets before c (kept e (item_or slots 0 Top))) (written_place site.program.now before e slots) (globals_of state) else globals_of state))) (drop 3 (map (value_of sets before c) slots)) a ≡ store_element (here site state) e (map (value_of sets before c) slots)
  stored_row [] a three held is = absurd (omega arith)
  stored_row (value ∷ []) a three held is = absurd (omega arith)
  stored_row (value ∷ index ∷ []) a three held is = absurd (omega arith)
  stored_row (value ∷ index ∷ array ∷ more) a three held is =
      let h = here site state in
      let slots : List Slot = value ∷ index ∷ array ∷ more in
      let x = written_place site.program.now before e slots in
      let rest = map (value_of sets before c) more in
      passed_row site sets later before after c state (value_of sets before c (kept e value)) rest x a is
      ∙ (λ i. by_place sets before c h (λ r k. Go (past h (with_cell state r k (kept_row sets before c h over e value i)) rest)) x)
      ∙ store_row sets before c h over e rest value index array (item_held sets before c slots 0 held) (item_held sets before c slots 2 held)

-- ---- the attempt

pub store-attempts : {S I : Type 0} (site : Site) (e : Element) {s0 s1 s2 : Sets I} (before after : HeapView S I) (group : GroupView S I) (answers : Conditional Answer S I) (outcomes : List (SharedOutcome S I)) → Extends s0 s1 → Extends s1 s2 → IsGiven site (StoreElement e) s0 before group → 2 < length group.top.stack.conds → AreStored site e s0 s1 before after group answers → ((heap : HeapView S I) → AreHeld s1 heap (path_of group) answers → GivesAt site.program.now (answered_by site 3 s1 answers) s1 s2 group outcomes heap) → IsAttemptBy site (StoreElement e) s0 s2 before after group outcomes
store-attempts {S = S} {I = I} site e {s0 = s0} {s1 = s1} {s2 = s2} before after group answers outcomes e01 e12 given three stored gives =
    let p = site.program.now in
    let set = writes_there site e s0 before group in
    let change = change_there site e s0 before group in
    record {
      is_for = stored.changed.keeps p given.is_for;
      attempts = λ tree s. attempts_follow p (row_by site (StoreElement e)) (answered_by site 3 s1 answers after) s0 s1 s2 before after set change tree tree group outcomes given.is_heap s e01 stored.changed inside e12 (Keeps-refl tree) (law tree) (gives after held tree stored.changed.is_heap (StandsIn-grown p e01 (Keeps-refl tree) before after given.is_heap stored.changed.grows group s));
    }
  where
    inside : (c : List Bool) → writes_there site e s0 before group c ≡ true → s0.test (path_of group) c ≡ true
    inside c t = cases (s0.test (path_of group) c) (is_cell (place_there site e s0 before group c)) t
      where
        cases : (a b : Bool) → (a && b) ≡ true → a ≡ true
        cases true b h = refl
        cases false b h = cc h

    held : AreHeld s1 after (path_of group) answers
    held = record {
      held = λ c t. placed_held s1 after c site.program.now IsPass (place_there site e s0 before group c) (answer_at s1 answers c) (λ r i. pass_held s1 after c r i (answer_at s1 answers c)) (stored.at c (sym (e01.test (path_of group) c (IsGroup-path_known s0 group given.is_group)) ∙ t));
    }

    law : (tree : List (Option (Caller S I))) (c : List Bool) → s0.test (path_of group) c ≡ true → answered_by site 3 s1 answers after c (with_globals (state_at s0 before tree group c) (changed_in (writes_there site e s0 before group) (change_there site e s0 before group) c (globals_at s0 before c))) ≡ row_by site (StoreElement e) (state_at s0 before tree group c)
    law tree c t =
        let slots = operands_at s0 group.top.stack c in
        let state = state_at s0 before tree group c in
        let x = place_there site e s0 before group c in
        let enough : 2 < length slots = omega (arith, length-operands s0 group.top.stack c, three) in
        ap (λ b. answered_by site 3 s1 answers after c (with_globals state (if (b && is_cell x) then change_there site e s0 before group c (globals_at s0 before c) else globals_at s0 before c))) t
        ∙ stored_row site e s0 s1 before after c state refl slots (answer_at s1 answers c) enough (given_operands_held site (StoreElement e) s0 before group given c t) (stored.at c t)

-- ---- fewer operands

pub few_to_store : (e : Element) (h : Here) (operands : List Value) → length operands < 3 → illegal h ≡ store_element h e operands
few_to_store e h [] few = refl
few_to_store e h (v ∷ []) few = refl
few_to_store e h (v ∷ TopValue ∷ []) few = refl
few_to_store e h (v ∷ IntValue n ∷ []) few = refl
few_to_store e h (v ∷ LongValue n ∷ []) few = refl
few_to_store e h (v ∷ NullValue ∷ []) few = refl
few_to_store e h (v ∷ RefValue n ∷ []) few = refl
few_to_store e h (v ∷ TextValue n ∷ []) few = refl
few_to_store e h (v ∷ a ∷ b ∷ more) few = absurd (omega arith)
