-- What a copy of elements comes to at each configuration of a condition is what the ordinary machine says.
use Rattle.std.proofs.Common.{◌≡◌, ℕ, ◌+◌, ◌^◌, ◌<◌, ◌≤◌, Bool, true, false, List, ◌&&◌, refl, sym, ◌∙◌, ap, arith, drop, length, subst, if◌then◌else◌}
use Rattle.std.proofs.lemmas.Bool.{eq-eqb, eqb-true, leb-true}
use Rattle.std.proofs.lemmas.List.{length-take}
use Rattle.std.specs.List.{list_all, take_while}
use Rattle.std.specs.Prelude.{None, Option, Some, is_some, not, slice_set, unwrap_or, ◌==◌}
use Rattle.vx_cells.proofs.ObjectClasses.{class_some, class_there}
use Rattle.vx_cells.proofs.WrittenThrough.{reference_held}
use Rattle.vx_cells.specs.Classes.{has_class}
use Rattle.vx_cond.proofs.CondLaws.{IsCond-of, cond_at-extends, cond_at-of}
use Rattle.vx_cond.proofs.RowLaws.{scope_is}
use Rattle.vx_cond.specs.Cond.{AreDisjoint, Conditional, IsCond, IsCondOf, IsInside, cond_at}
use Rattle.vx_cond.specs.Leaves.{value_under, value_within}
use Rattle.vx_group_states.proofs.StateLaws.{both_first, both_second}
use Rattle.vx_group_states.specs.Answering.{answer_at}
use Rattle.vx_group_states.specs.Answers.{answer_cmp}
use Rattle.vx_group_states.specs.Sites.{IsSomewhere}
use Rattle.vx_group_states.specs.declared.answer.Answer.{Answer}
use Rattle.vx_group_states.specs.declared.answer.Answer.TheVariants as answer
use Rattle.vx_heap.proofs.Cells.{is_object_in}
use Rattle.vx_heap.proofs.HeapLaws.{globals_at-extends, is_held-extends, name_at-extends}
use Rattle.vx_heap.specs.Changing.{IsChangedIn}
use Rattle.vx_heap.specs.Heap.{Globals, HeapView, IsHeap, class_at_slot, globals_at, is_held, name_at, object_in}
use Rattle.vx_java.specs.Ids.{as_class}
use Rattle.vx_java.specs.Library.{copy_outcome, fits_component, fitting_values}
use Rattle.vx_java.specs.Machine.{Here, Object, Outcome, Value, Raise, go, no_object, object_at, raise, when}
use Rattle.vx_java.specs.Machine.{Int as IntValue, Long as LongValue, Null as NullValue, Ref as RefValue, Text as TextValue, Top as TopValue}
use Rattle.vx_link.specs.ClassNames.{component_of, core_class, has_reference_components}
use Rattle.vx_link.specs.declared.program.Program.{Program}
use Rattle.vx_list.specs.Places.{item_or}
use Rattle.vx_natives.proofs.CharLaws.{cells_number}
use Rattle.vx_natives.proofs.Keeping.{IsKept-changed, IsKept-later}
use Rattle.vx_natives.specs.Cells.{cells_of}
use Rattle.vx_natives.specs.Deeds.{copies, deed_says, has_elements}
use Rattle.vx_natives.specs.Doing.{IsDone, IsSaid, over, said_over}
use Rattle.vx_space.specs.Sets.{Extends, IsLawful, IsSet, Sets}
use Rattle.vx_value.specs.declared.ids.ClassId.{ClassId}
use Rattle.vx_value.specs.declared.slot.Slot.{Slot}
use Rattle.vx_value.specs.declared.slot.Slot.TheVariants.{Ref}
use Rattle.vx_effects.specs.Carrying.{IsHeldIn}
use Rattle.vx_effects.specs.Copying.{AreCopied, AreElements, component_in, elements_at, fits_at, front, values_at, with_values}
use Rattle.vx_effects.proofs.Fronts.{all_fit, all_taken, front-written}

-- ---- which values fit

module _ {S I : Type 0} (p : Program) (sets : Sets I) (heap : HeapView S I) (c : List Bool) (h : Here) where
  abbrev H : Here
  H = over p h (globals_at sets heap c)

  same_fits : (component : ℕ) (v : Value) → fits_at p sets heap (Some (as_class component)) c v ≡ fits_component H component v
  same_fits component TopValue = refl
  same_fits component (IntValue n) = refl
  same_fits component (LongValue n) = refl
  same_fits component NullValue = refl
  same_fits component (RefValue r) = refl
  same_fits component (TextValue units) = refl

  -- the class of the array's components, by that of the plain array
  component_is : (other : ℕ) → is_held sets heap c (Ref other) ≡ true → component_in p (class_at_slot heap (Ref other)) ≡ (let k = (object_at H.state (name_at sets heap.objects c other)).class in if has_reference_components p k then Some (as_class (component_of p k)) else None)
  component_is other t = by (class_at_slot heap (Ref other)) (object_at H.state (name_at sets heap.objects c other)).class (class_some sets heap c other t) (λ test. class_there test sets heap c other t)
    where
      by : (o : Option ClassId) (k : ℕ) → is_some o ≡ true → ((test : ℕ → Bool) → has_class test o ≡ test k) → component_in p o ≡ (if has_reference_components p k then Some (as_class (component_of p k)) else None)
      by None k q same = cc q
      by (Some class) k q same =
          let equal : k ≡ class.0 = eqb-true k class.0 (sym (same (λ n. n == class.0)) ∙ eq-eqb class.0 class.0 refl) in
          λ i. if has_reference_components p (sym equal i) then Some (as_class (component_of p (sym equal i))) else None

  values_fit : (from to : Object) (values : List Value) (component : Option ClassId) → component ≡ (if has_reference_components p to.class then Some (as_class (component_of p to.class)) else None) → fitting_values H from to values ≡ take_while (fits_at p sets heap component c) values
  values_fit from to values component is = cases (has_reference_components p to.class) ∙ sym (ap (λ (o : Option ClassId). take_while (fits_at p sets heap o c) values) is)
    where
      cases : (b : Bool) → (if b then take_while (fits_component H (component_of p to.class)) values else values) ≡ take_while (fits_at p sets heap (if b then Some (as_class (component_of p to.class)) else None) c) values
      cases true = λ i. take_while (λ v. sym (same_fits (component_of p to.class) v) i) values
      cases false = sym (all_taken values)

-- the class of the components, by whether they are references
pub no_components : (p : Program) (class : ClassId) → has_reference_components p class.0 ≡ false → None ≡ component_in p (Some class)
no_components p class e = sym (ap (λ b. if b then Some (as_class (component_of p class.0)) else None) e)

pub components_are : (p : Program) (class component : ClassId) → has_reference_components p class.0 ≡ true → component.0 ≡ component_of p class.0 → Some component ≡ component_in p (Some class)
components_are p class component e is = ap (λ k. Some (as_class k)) is ∙ sym (ap (λ b. if b then Some (as_class (component_of p class.0)) else None) e)

-- ---- one configuration

-- the outcome of the plain copy, by whether all fit
module _ (p : Program) (g : Globals) (h : Here) (rest : List Value) (to at : ℕ) (fits : Value → Bool) (values : List Value) where
  abbrev Before : Here
  Before = over p h g

  -- where elements were written
  abbrev After : Here
  After = over p h (with_values to at (front fits values) g)

  abbrev Object-to : Object
  Object-to = item_or g.objects to no_object

  copied_outcome : at + length values ≤ length Object-to.cells → copy_outcome Before rest to at values (take_while fits values) ≡ when (list_all fits values) (go After rest) (raise After "java/lang/ArrayStoreException")
  copied_outcome enough =
      let Then : List Value → Here = λ cells. over p h (record g { objects = slice_set g.objects to (record Object-to { cells = cells }) }) in
      let cells = front-written fits values Object-to.cells at enough in
      let all = all_fit fits values in
      λ i. when (all i) (go (Then (sym cells i)) rest) (raise (Then (sym cells i)) "java/lang/ArrayStoreException")

-- ---- the answers

there_in : {S I : Type 0} (sets : Sets I) (heap : HeapView S I) (condition : I) (array from other to count : ℕ) → IsHeldIn sets heap condition (copies array from other to count) → (c : List Bool) → sets.test condition c ≡ true → (is_held sets heap c (Ref array) && is_held sets heap c (Ref other)) ≡ true
there_in sets heap condition array from other to count held c t =
    both_first (is_held sets heap c (Ref array) && is_held sets heap c (Ref other)) (has_elements heap array from count && has_elements heap other to count) (held.held c t)

elements_in : {S I : Type 0} (sets : Sets I) (heap : HeapView S I) (condition : I) (array from other to count : ℕ) → IsHeldIn sets heap condition (copies array from other to count) → (c : List Bool) → sets.test condition c ≡ true → (has_elements heap array from count && has_elements heap other to count) ≡ true
elements_in sets heap condition array from other to count held c t =
    both_second (is_held sets heap c (Ref array) && is_held sets heap c (Ref other)) (has_elements heap array from count && has_elements heap other to count) (held.held c t)

module _ {S I : Type 0} (p : Program) {s0 s1 s2 : Sets I} (before after : HeapView S I) (condition fitting : I) (array from other to count : ℕ) (component : Option ClassId) (answers : Conditional Answer S I) (v : IsHeap s0 before) (held : IsHeldIn s0 before condition (copies array from other to count)) (known : s0.is_known condition ≡ true) (enough : to + count ≤ length (object_in before other).cells) (e : Extends s1 s2) (d : Extends s0 s1) (component_of_it : component ≡ component_in p (class_at_slot before (Ref other))) (done : AreCopied p component s0 s1 before after condition array from other to count fitting) where
  abbrev Fits : List Bool → Value → Bool
  Fits c = fits_at p s0 before component c

  abbrev Elements : List Bool → List Value
  Elements c = elements_at s0 before array from count c

  abbrev Says : (c : List Bool) → Here → List Value → Outcome
  Says c = said_over p s0 before (deed_says s0 before (copies array from other to count)) c

  abbrev Answer-by : Bool → Answer
  Answer-by b = if b then answer.Pass else answer.Raise (as_class (core_class p "java/lang/ArrayStoreException")) None

  other_held : (c : List Bool) → s0.test condition c ≡ true → is_held s0 before c (Ref other) ≡ true
  other_held c t = both_second (is_held s0 before c (Ref array)) (is_held s0 before c (Ref other)) (there_in s0 before condition array from other to count held c t)

  room : (c : List Bool) → s0.test condition c ≡ true → to + length (Elements c) ≤ length (cells_of s0 before c other)
  room c t =
      let there = reference_held s0 before c other (other_held c t) in
      omega (arith, enough, cells_number s0 before c other there.0 there.1, length-take count (drop from (cells_of s0 before c array)))

  globals : (c : List Bool) → s0.test condition c ≡ true → globals_at s2 after c ≡ with_values (name_at s0 before.objects c other) to (front (Fits c) (Elements c)) (globals_at s0 before c)
  globals c t = globals_at-extends e after done.changed.is_heap c ∙ done.changed.inside c t

  -- the ordinary machine's outcome, by whether all fit
  says_so : (c : List Bool) → s0.test condition c ≡ true → (h : Here) (rest : List Value) → when (list_all (Fits c) (Elements c)) (go (over p h (globals_at s2 after c)) rest) (raise (over p h (globals_at s2 after c)) "java/lang/ArrayStoreException") ≡ Says c h rest
  says_so c t h rest =
      let g = globals_at s0 before c in
      let r = name_at s0 before.objects c other in
      let o = object_at (over p h g).state (name_at s0 before.objects c array) in
      let fit = values_fit p s0 before c h o (object_at (over p h g).state r) (Elements c) component (component_of_it ∙ component_is p s0 before c h other (other_held c t)) in
      ap (λ (x : Globals). when (list_all (Fits c) (Elements c)) (go (over p h x) rest) (raise (over p h x) "java/lang/ArrayStoreException")) (globals c t)
      ∙ sym (copied_outcome p g h rest r to (Fits c) (Elements c) (room c t))
      ∙ sym (ap (copy_outcome (over p h g) rest r to (Elements c)) fit)

  said_by : (c : List Bool) (b : Bool) → ((h : Here) (rest : List Value) → when b (go (over p h (globals_at s2 after c)) rest) (raise (over p h (globals_at s2 after c)) "java/lang/ArrayStoreException") ≡ Says c h rest) → IsSaid p s2 after c (Says c) (Answer-by b)
  said_by c true same = record { held = refl; at = same }
  said_by c false same = record { held = refl; at = same }

  pub copied-done : IsCond answer_cmp s2 answers → answers.scope ≡ condition → ((c : List Bool) → s1.test condition c ≡ true → answer_at s2 answers c ≡ (if s1.test fitting c then answer.Pass else answer.Raise (as_class (core_class p "java/lang/ArrayStoreException")) None)) → IsDone p s0 s2 before after condition (deed_says s0 before (copies array from other to count)) answers
  copied-done is_cond scope at = record {
    kept = IsKept-later before after (s0.test condition) e (IsKept-changed s0 s1 before after (s0.test condition) _ done.changed);
    is_cond = is_cond;
    scope = scope;
    at = λ c t.
        let P : Answer → Type 0 = IsSaid p s2 after c (Says c) in
        let all : s1.test fitting c ≡ list_all (Fits c) (Elements c) = done.fits.test c ∙ ap (λ b. b && list_all (Fits c) (Elements c)) t in
        subst P (sym (at c (d.test condition c known ∙ t) ∙ ap Answer-by all)) (said_by c (list_all (Fits c) (Elements c)) (says_so c t));
  }

-- ---- which answer

module _ {S I : Type 0} {s0 s1 : Sets I} (fitting failing condition : I) (passes : Conditional Answer S I) (inside : IsInside s0 fitting condition) (known : s0.is_known condition ≡ true) (fitting_known : s0.is_known fitting ≡ true) (one : IsCondOf answer_cmp s0 (value_within s0 fitting (λ _. Some answer.Pass)) passes) (scope : passes.scope ≡ fitting) (e : Extends s0 s1) (rest : IsSet s1 failing (λ c. s0.test condition c && not (s0.test fitting c))) where
  apart : (a b : Bool) → b ≡ true → (a && not b) ≡ false
  apart true true t = refl
  apart true false t = cc t
  apart false b t = refl

  pub answers-disjoint : AreDisjoint s1 passes.scope failing
  answers-disjoint = record {
    apart = λ c t. rest.test c ∙ apart (s0.test condition c) (s0.test fitting c) (sym (e.test fitting c fitting_known) ∙ ap (λ i. s1.test i c) (sym scope) ∙ t);
  }

  value : (c : List Bool) → cond_at s1 passes c ≡ (if s0.test fitting c then Some answer.Pass else None)
  value c = cond_at-extends answer_cmp e passes (IsCond-of answer_cmp s0 _ passes one) c ∙ cond_at-of answer_cmp s0 (value_within s0 fitting (λ _. Some answer.Pass)) passes c one

  module _ {s2 : Sets I} (lawful : IsLawful s2) (f : Extends s1 s2) (failed : Answer) (answers : Conditional Answer S I) (made : IsCondOf answer_cmp s2 (value_under s1 failing failed (cond_at s1 passes)) answers) where
    under : (c : List Bool) → value_under s1 failing failed (cond_at s1 passes) c ≡ (if s0.test condition c && not (s0.test fitting c) then Some failed else (if s0.test fitting c then Some answer.Pass else None))
    under c = λ i. if rest.test c i then Some failed else value c i

    cover : (a b : Bool) → (b ≡ true → a ≡ true) → is_some (if a && not b then Some failed else (if b then Some answer.Pass else None)) ≡ a
    cover true true h = refl
    cover true false h = refl
    cover false true h = sym (h refl)
    cover false false h = refl

    pub answers-scope : answers.scope ≡ condition
    answers-scope = scope_is answer_cmp lawful _ answers condition (s0.test condition) made (record { known = f.known condition (e.known condition known); test = λ c. f.test condition c (e.known condition known) ∙ e.test condition c known }) (λ c. ap is_some (under c) ∙ cover (s0.test condition c) (s0.test fitting c) (inside.inside c))

    pub answers-at : (c : List Bool) → s0.test condition c ≡ true → answer_at s2 answers c ≡ (if s0.test fitting c then answer.Pass else failed)
    answers-at c t =
        ap (λ o. unwrap_or o answer.Illegal) (cond_at-of answer_cmp s2 _ answers c made ∙ under c ∙ ap (λ a. if a && not (s0.test fitting c) then Some failed else (if s0.test fitting c then Some answer.Pass else None)) t)
        ∙ by (s0.test fitting c)
      where
        by : (b : Bool) → unwrap_or (if not b then Some failed else (if b then Some answer.Pass else None)) answer.Illegal ≡ (if b then answer.Pass else failed)
        by true = refl
        by false = refl

pub store_raised : (p : Program) (a : Answer) → ((class : ClassId) × (a ≡ answer.Raise class None) × (class.0 ≡ core_class p "java/lang/ArrayStoreException")) → a ≡ answer.Raise (as_class (core_class p "java/lang/ArrayStoreException")) None
store_raised p a h = h.1 ∙ ap (λ k. answer.Raise (as_class k) None) h.2

-- where all fit is inside the condition
pub fitting_inside : {S I : Type 0} (p : Program) (component : Option ClassId) {s0 s1 : Sets I} → Extends s0 s1 → (before after : HeapView S I) (condition fitting : I) (array from other to count : ℕ) → s0.is_known condition ≡ true → AreCopied p component s0 s1 before after condition array from other to count fitting → IsInside s1 fitting condition
fitting_inside p component {s0 = s0} d before after condition fitting array from other to count known done = record {
  inside = λ c t. d.test condition c known ∙ both_first (s0.test condition c) _ (sym (done.fits.test c) ∙ t);
}

-- what was read, and written
pub AreCopied-done : {S I : Type 0} (p : Program) (component : Option ClassId) {s0 s1 s2 : Sets I} → Extends s0 s1 → Extends s1 s2 → (before after : HeapView S I) (condition fitting : I) (array from other to count : ℕ) (parts : List (Conditional Slot S I)) → IsHeap s0 before → s0.is_known condition ≡ true → AreElements p component s0 s1 before array from count condition parts fitting → IsChangedIn s1 s2 before after (s1.test condition) (λ c. with_values (name_at s1 before.objects c other) to (values_at s1 before parts c)) → AreCopied p component s0 s2 before after condition array from other to count fitting
AreCopied-done p component {s0 = s0} {s1 = s1} {s2 = s2} d e before after condition fitting array from other to count parts v known read written = record {
  changed = record {
    is_heap = written.is_heap;
    grows = written.grows;
    keeps = written.keeps;
    inside = λ c t.
        let name = name_at-extends d before v c other in
        let values = read.at c t in
        let globals = globals_at-extends d before v c in
        written.inside c (d.test condition c known ∙ t) ∙ (λ i. with_values (name i) to (values i) (globals i));
    outside = λ c t. written.outside c (d.test condition c known ∙ t) ∙ globals_at-extends d before v c;
  };
  fits = record { known = e.known fitting read.fits.known; test = λ c. e.test fitting c read.fits.known ∙ read.fits.test c };
}

-- ---- what is there

module _ {S I : Type 0} (sets : Sets I) (heap : HeapView S I) (condition : I) (array from other to count : ℕ) (held : IsHeldIn sets heap condition (copies array from other to count)) where
  array_held : (c : List Bool) → sets.test condition c ≡ true → is_held sets heap c (Ref array) ≡ true
  array_held c t = both_first (is_held sets heap c (Ref array)) (is_held sets heap c (Ref other)) (there_in sets heap condition array from other to count held c t)

  pub array-there : IsSomewhere sets condition → array < length heap.objects
  array-there some = (reference_held sets heap some.config array (array_held some.config some.inside)).0

  pub array-inside : IsInside sets condition (object_in heap array).presence
  array-inside = record { inside = λ c t. (reference_held sets heap c array (array_held c t)).1 }

  other-there : IsSomewhere sets condition → other < length heap.objects
  other-there some =
      (reference_held sets heap some.config other (both_second (is_held sets heap some.config (Ref array)) (is_held sets heap some.config (Ref other)) (there_in sets heap condition array from other to count held some.config some.inside))).0

  -- both arrays have the elements, and a cell for each
  pub array-cells : IsSomewhere sets condition → IsHeap sets heap → (from + count ≤ length (object_in heap array).cells) × (from + count < 2 ^ 32)
  array-cells some v =
      let object = is_object_in sets heap array (object_in heap array) v (array-there some) refl in
      let few = leb-true (from + count) (object_in heap array).length (both_first (has_elements heap array from count) (has_elements heap other to count) (elements_in sets heap condition array from other to count held some.config some.inside)) in
      (omega (arith, few, object.sized), omega (arith, few, object.short))

  pub other-cells : IsSomewhere sets condition → IsHeap sets heap → (to + count ≤ length (object_in heap other).cells) × (to + count < 2 ^ 32)
  other-cells some v =
      let object = is_object_in sets heap other (object_in heap other) v (other-there some) refl in
      let few = leb-true (to + count) (object_in heap other).length (both_second (has_elements heap array from count) (has_elements heap other to count) (elements_in sets heap condition array from other to count held some.config some.inside)) in
      (omega (arith, few, object.sized), omega (arith, few, object.short))

  -- over a later space
  pub other-later : {later : Sets I} → Extends sets later → IsHeap sets heap → sets.is_known condition ≡ true → (c : List Bool) → later.test condition c ≡ true → is_held later heap c (Ref other) ≡ true
  other-later e v known c t = is_held-extends e heap v c (Ref other) ∙ both_second (is_held sets heap c (Ref array)) (is_held sets heap c (Ref other)) (there_in sets heap condition array from other to count held c (sym (e.test condition c known) ∙ t))
