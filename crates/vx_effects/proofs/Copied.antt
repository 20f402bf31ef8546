-- Elements that are read from one array and written to another one, at each configuration of a condition.
use Rattle.std.proofs.Common.{◌≡◌, ℕ, ◌+◌, ◌<◌, suc, Bool, true, false, List, [], ◌∷◌, ◌++◌, ◌&&◌, refl, sym, ◌∙◌, ap, arith, length, subst, if◌then◌else◌}
use Rattle.std.proofs.Math.ListN.{set}
use Rattle.std.specs.List.{list_all}
use Rattle.std.specs.Prelude.{None, Option, Some, is_some, option_map}
use Rattle.vx_cells.proofs.ObjectClasses.{class_some, class_there}
use Rattle.vx_cells.specs.Classes.{has_class}
use Rattle.vx_cond.proofs.CondLaws.{IsCond-extends, IsCond-of, cond_at-extends, cond_at-of}
use Rattle.vx_cond.proofs.SideLaws.{cond_at-covers}
use Rattle.vx_cond.specs.Cond.{Conditional, IsCond, IsCondOf, IsInside, cond_at}
use Rattle.vx_cond.specs.Leaves.{value_within}
use Rattle.vx_cond.specs.Row.{Conditionals}
use Rattle.vx_cond.specs.Slots.{or_top, slot_at}
use Rattle.vx_group_states.proofs.StateLaws.{both_first}
use Rattle.vx_heap.proofs.Cells.{is_object_in}
use Rattle.vx_heap.proofs.HeapLaws.{IsHeap-extends, globals_at-extends, is_held-extends, name_at-extends, value_of-extends}
use Rattle.vx_heap.proofs.Known.{cond_known}
use Rattle.vx_heap.proofs.Written.{restricted_scope, within_there}
use Rattle.vx_heap.specs.Heap.{Globals, HeapView, IsCellRead, IsHeap, class_at_slot, globals_at, is_held, object_in, value_of}
use Rattle.vx_java.specs.Machine.{Value, no_object}
use Rattle.vx_java.specs.Machine.{Top as TopValue}
use Rattle.vx_link.specs.Assignability.{assignable}
use Rattle.vx_link.specs.declared.program.Program.{Program}
use Rattle.vx_list.specs.Places.{item_or}
use Rattle.vx_natives.proofs.CharLaws.{cells_number}
use Rattle.vx_natives.specs.Cells.{cells_of}
use Rattle.vx_space.proofs.Spaces.{Extends-refl, Extends-trans}
use Rattle.vx_space.specs.Sets.{Extends, IsLawful, IsSet, Sets}
use Rattle.vx_value.specs.Slot.{slot_cmp}
use Rattle.vx_value.specs.declared.ids.ClassId.{ClassId}
use Rattle.vx_value.specs.declared.slot.Slot.{Slot}
use Rattle.vx_value.specs.declared.slot.Slot.TheVariants.{Int, Long, Null, Ref, Text, Top}
use Rattle.vx_effects.specs.Copying.{AreElements, AreParts, IsElement, IsPart, element_at, elements_at, fits_at, fits_class, fits_value, front, values_at}
use Rattle.vx_effects.proofs.Fronts.{all-more, front-more, part-more}

-- ---- one element

-- what a slot that is there names fits just where its plain value does
kind_fits : {S I : Type 0} (p : Program) (sets : Sets I) (heap : HeapView S I) (c : List Bool) (component : ClassId) (slot : Slot) → is_held sets heap c slot ≡ true → fits_class p component (class_at_slot heap slot) ≡ fits_at p sets heap (Some component) c (value_of sets heap c slot)
kind_fits p sets heap c component Top h = refl
kind_fits p sets heap c component (Int n) h = refl
kind_fits p sets heap c component (Long n) h = refl
kind_fits p sets heap c component Null h = refl
kind_fits p sets heap c component (Text n) h = refl
kind_fits p sets heap c component (Ref r) h = there (class_at_slot heap (Ref r)) (class_some sets heap c r h) ∙ class_there (λ k. assignable p k component.0) sets heap c r h
  where
    there : (o : Option ClassId) → is_some o ≡ true → fits_class p component o ≡ has_class (λ k. assignable p k component.0) o
    there None t = cc t
    there (Some class) t = refl

with_true : (b : Bool) → (b && true) ≡ b
with_true true = refl
with_true false = refl

both_where : (b x y : Bool) → (b ≡ true → x ≡ y) → (b && x) ≡ (b && y)
both_where true x y same = same refl
both_where false x y same = refl

-- in an array of no references all fit
pub element-any : {S I : Type 0} (p : Program) {s0 s1 : Sets I} → Extends s0 s1 → (heap : HeapView S I) (array cell : ℕ) (within : I) (value : Conditional Slot S I) → s0.is_known within ≡ true → IsCellRead s0 s1 heap array cell within value → IsElement p None s0 s1 heap array cell within value
element-any p {s0 = s0} {s1 = s1} e heap array cell within value known r =
    let scope : (c : List Bool) → s1.test value.scope c ≡ s0.test within c = λ c. ap (λ i. s1.test i c) r.scope ∙ e.test within c known in
    record {
      is_cond = r.is_cond;
      scope = λ c. scope c ∙ sym (with_true (s0.test within c));
      at = λ c t. r.at c (sym (scope c) ∙ t);
      held = record { held = λ c t. r.held c (sym (scope c) ∙ t) };
    }

-- of references those that fit
pub element-fitting : {S I : Type 0} (p : Program) (component : ClassId) {s0 s1 s2 s3 : Sets I} → IsLawful s3 → Extends s0 s1 → Extends s1 s2 → Extends s2 s3 → (heap : HeapView S I) (array cell : ℕ) (within fitting : I) (value part : Conditional Slot S I) → IsHeap s0 heap → s0.is_known within ≡ true → IsCellRead s0 s1 heap array cell within value → IsSet s2 fitting (λ c. s1.test value.scope c && fits_class p component (class_at_slot heap (slot_at s1 value c))) → IsCondOf slot_cmp s3 (value_within s2 fitting (cond_at s2 value)) part → IsElement p (Some component) s0 s3 heap array cell within part
element-fitting {S = S} {I = I} p component {s0 = s0} {s1 = s1} {s2 = s2} {s3 = s3} lawful d e f heap array cell within fitting value part v known r set made = record {
  is_cond = IsCond-of slot_cmp s3 _ part made;
  scope = λ c. test c ∙ both_where (s0.test within c) _ _ (fits c);
  at = λ c t.
      ap (value_of s3 heap c) (slot c (inner c t))
      ∙ value_of-extends (Extends-trans e f) heap (IsHeap-extends d heap v) c (slot_at s1 value c)
      ∙ r.at c (outer c t);
  held = record {
    held = λ c t.
        ap (is_held s3 heap c) (slot c (inner c t))
        ∙ is_held-extends (Extends-trans e f) heap (IsHeap-extends d heap v) c (slot_at s1 value c)
        ∙ r.held c (outer c t);
  };
}
  where
    value_known : s1.is_known value.scope ≡ true
    value_known = (cond_known slot_cmp s1 value r.is_cond).0

    read_scope : (c : List Bool) → s1.test value.scope c ≡ s0.test within c
    read_scope c = ap (λ i. s1.test i c) r.scope ∙ d.test within c known

    scope : part.scope ≡ fitting
    scope = restricted_scope slot_cmp lawful f value part fitting (IsCond-extends slot_cmp e value r.is_cond) set.known (record { inside = λ c t. e.test value.scope c value_known ∙ both_first (s1.test value.scope c) _ (sym (set.test c) ∙ t) }) made

    inner : (c : List Bool) → s3.test part.scope c ≡ true → s2.test fitting c ≡ true
    inner c t = sym (f.test fitting c set.known) ∙ ap (λ i. s3.test i c) (sym scope) ∙ t

    outer : (c : List Bool) → s3.test part.scope c ≡ true → s0.test within c ≡ true
    outer c t = sym (read_scope c) ∙ both_first (s1.test value.scope c) _ (sym (set.test c) ∙ inner c t)

    test : (c : List Bool) → s3.test part.scope c ≡ (s0.test within c && fits_class p component (class_at_slot heap (slot_at s1 value c)))
    test c = ap (λ i. s3.test i c) scope ∙ f.test fitting c set.known ∙ set.test c ∙ ap (λ b. b && fits_class p component (class_at_slot heap (slot_at s1 value c))) (read_scope c)

    fits : (c : List Bool) → s0.test within c ≡ true → fits_class p component (class_at_slot heap (slot_at s1 value c)) ≡ fits_at p s0 heap (Some component) c (element_at s0 heap array cell c)
    fits c t =
        kind_fits p s1 heap c component (slot_at s1 value c) (r.held c t)
        ∙ ap (fits_at p s1 heap (Some component) c) (r.at c t)
        ∙ ap (λ (g : Globals). fits_value p g.objects (Some component) (element_at s0 heap array cell c)) (globals_at-extends d heap v c)

    slot : (c : List Bool) → s2.test fitting c ≡ true → slot_at s3 part c ≡ slot_at s1 value c
    slot c t =
        ap or_top (cond_at-of slot_cmp s3 (value_within s2 fitting (cond_at s2 value)) part c made ∙ within_there (s2.test fitting c) (cond_at s2 value c) t)
        ∙ ap or_top (cond_at-extends slot_cmp e value r.is_cond c)

-- ---- parts over a later space

part_later : {S I : Type 0} {s1 s2 : Sets I} → Extends s1 s2 → (heap : HeapView S I) (path : I) (part : Conditional Slot S I) → IsHeap s1 heap → s1.is_known path ≡ true → IsPart s1 heap path part → IsPart s2 heap path part
part_later {s1 = s1} {s2 = s2} e heap path part v known h =
    let earlier : (c : List Bool) → s2.test part.scope c ≡ true → s1.test part.scope c ≡ true = λ c t. sym (e.test part.scope c ((cond_known slot_cmp s1 part h.is_cond).0)) ∙ t in
    record {
      is_cond = IsCond-extends slot_cmp e part h.is_cond;
      inside = record { inside = λ c t. e.test path c known ∙ h.inside.inside c (earlier c t) };
      held = record {
        held = λ c t.
            ap (λ o. is_held s2 heap c (or_top o)) (cond_at-extends slot_cmp e part h.is_cond c)
            ∙ is_held-extends e heap v c (slot_at s1 part c)
            ∙ h.held.held c (earlier c t);
      };
    }

parts_later : {S I : Type 0} {s1 s2 : Sets I} → Extends s1 s2 → (heap : HeapView S I) (path : I) (parts : List (Conditional Slot S I)) → IsHeap s1 heap → s1.is_known path ≡ true → AreParts s1 heap path parts → AreParts s2 heap path parts
parts_later e heap path [] v known h = tt
parts_later e heap path (part ∷ parts) v known h = (part_later e heap path part v known h.0, parts_later e heap path parts v known h.1)

values_later : {S I : Type 0} {s1 s2 : Sets I} → Extends s1 s2 → (heap : HeapView S I) (path : I) (parts : List (Conditional Slot S I)) → IsHeap s1 heap → AreParts s1 heap path parts → (c : List Bool) → values_at s2 heap parts c ≡ values_at s1 heap parts c
values_later e heap path [] v h c = refl
values_later {s1 = s1} {s2 = s2} e heap path (part ∷ parts) v h c =
    let first : option_map (value_of s2 heap c) (cond_at s2 part c) ≡ option_map (value_of s1 heap c) (cond_at s1 part c) = ap (option_map (value_of s2 heap c)) (cond_at-extends slot_cmp e part h.0.is_cond c) ∙ same (cond_at s1 part c) in
    λ i. first i ∷ values_later e heap path parts v h.1 c i
  where
    same : (o : Option Slot) → option_map (value_of s2 heap c) o ≡ option_map (value_of s1 heap c) o
    same None = refl
    same (Some slot) = ap Some (value_of-extends e heap v c slot)

parts_more : {S I : Type 0} (sets : Sets I) (heap : HeapView S I) (path : I) (parts : List (Conditional Slot S I)) (part : Conditional Slot S I) → AreParts sets heap path parts → IsPart sets heap path part → AreParts sets heap path (parts ++ part ∷ [])
parts_more sets heap path [] part h k = (k, tt)
parts_more sets heap path (x ∷ parts) part h k = (h.0, parts_more sets heap path parts part h.1 k)

pub values_more : {S I : Type 0} (sets : Sets I) (heap : HeapView S I) (parts : List (Conditional Slot S I)) (part : Conditional Slot S I) (c : List Bool) → values_at sets heap (parts ++ part ∷ []) c ≡ values_at sets heap parts c ++ option_map (value_of sets heap c) (cond_at sets part c) ∷ []
values_more sets heap [] part c = refl
values_more sets heap (x ∷ parts) part c = ap (λ others. option_map (value_of sets heap c) (cond_at sets x c) ∷ others) (values_more sets heap parts part c)

number_more : {A : Type 0} (xs : List A) (x : A) → length (xs ++ x ∷ []) ≡ length xs + 1
number_more [] x = refl
number_more (y ∷ xs) x = ap suc (number_more xs x) ∙ omega arith

-- where there is a value, and where there is none
pub value_there : {S I : Type 0} (sets : Sets I) (part : Conditional Slot S I) (c : List Bool) → IsCond slot_cmp sets part → sets.test part.scope c ≡ true → cond_at sets part c ≡ Some (slot_at sets part c)
value_there sets part c k t = some (cond_at sets part c) (cond_at-covers slot_cmp sets part k c ∙ t)
  where
    some : (o : Option Slot) → is_some o ≡ true → o ≡ Some (or_top o)
    some None h = cc h
    some (Some x) h = refl

pub no_value_there : {S I : Type 0} (sets : Sets I) (part : Conditional Slot S I) (c : List Bool) → IsCond slot_cmp sets part → sets.test part.scope c ≡ false → cond_at sets part c ≡ None
no_value_there sets part c k t = none (cond_at sets part c) (cond_at-covers slot_cmp sets part k c ∙ t)
  where
    none : (o : Option Slot) → is_some o ≡ false → o ≡ None
    none None h = refl
    none (Some x) h = cc h

-- there is a value just in the scope
pub scoped : {S I : Type 0} (sets : Sets I) (part : Conditional Slot S I) → IsCond slot_cmp sets part → (c : List Bool) → cond_at sets part c ≡ (if sets.test part.scope c then Some (slot_at sets part c) else None)
scoped sets part k c = cases (sets.test part.scope c) refl
  where
    cases : (b : Bool) → sets.test part.scope c ≡ b → cond_at sets part c ≡ (if b then Some (slot_at sets part c) else None)
    cases true t = value_there sets part c k t
    cases false t = no_value_there sets part c k t

-- ---- the loop that reads

-- so many elements were read
pub record IsPutting {S I : Type 0} (p : Program) (component : Option ClassId) (start sets : Sets I) (heap : HeapView S I) (array from i : ℕ) (path : I) (row : Conditionals Slot S I) (fitting : I) : Type 0 where
  pub extends : Extends start sets
  pub scope : row.scope ≡ path
  pub elements : AreElements p component start sets heap array from i path row.conds fitting

pub IsPutting-start : {S I : Type 0} (p : Program) (component : Option ClassId) (sets : Sets I) (heap : HeapView S I) (array from : ℕ) (row : Conditionals Slot S I) → sets.is_known row.scope ≡ true → row.conds ≡ [] → IsPutting p component sets sets heap array from 0 row.scope row row.scope
IsPutting-start {S = S} {I = I} p component sets heap array from row known none = record {
  extends = Extends-refl sets;
  scope = refl;
  elements = (
      let P : List (Conditional Slot S I) → Type 0 = λ parts. AreElements p component sets sets heap array from 0 row.scope parts row.scope in
      subst P (sym none) (record {
        are_parts = tt;
        number = refl;
        fits = record { known = known; test = λ c. sym (with_true (sets.test row.scope c)) };
        at = λ c t. refl;
      }));
}

-- what is known of one element more
module _ {S I : Type 0} (p : Program) (component : Option ClassId) {s0 s1 : Sets I} (heap : HeapView S I) (array from i : ℕ) (path fitting : I) (row : Conditionals Slot S I) (v : IsHeap s0 heap) (there : array < length heap.objects) (known : s0.is_known path ≡ true) (inside : IsInside s0 path (object_in heap array).presence) (enough : from + i < length (object_in heap array).cells) (h : IsPutting p component s0 s1 heap array from i path row fitting) where
  abbrev Fits : List Bool → Value → Bool
  Fits c = fits_at p s0 heap component c

  abbrev Before : List Bool → List Value
  Before c = elements_at s0 heap array from i c

  abbrev Next : List Bool → Value
  Next c = element_at s0 heap array (from + i) c

  more_elements : (c : List Bool) → s0.test path c ≡ true → elements_at s0 heap array from (i + 1) c ≡ Before c ++ Next c ∷ []
  more_elements c t = part-more (cells_of s0 heap c array) from i TopValue (omega (arith, enough, cells_number s0 heap c array there (inside.inside c t)))

  module _ {s2 : Sets I} (part : Conditional Slot S I) (e : Extends s1 s2) (k : IsElement p component s1 s2 heap array (from + i) fitting part) where
    -- over the space at the beginning
    same_globals : (c : List Bool) → globals_at s1 heap c ≡ globals_at s0 heap c
    same_globals c = globals_at-extends h.extends heap v c

    same_element : (c : List Bool) → element_at s1 heap array (from + i) c ≡ Next c
    same_element c = λ j. item_or ((item_or ((same_globals c j).objects) (name_at-extends h.extends heap v c array j) no_object).cells) (from + i) TopValue

    same_fits : (c : List Bool) → fits_at p s1 heap component c (element_at s1 heap array (from + i) c) ≡ Fits c (Next c)
    same_fits c = λ j. fits_value p ((same_globals c j).objects) component (same_element c j)

    part_scope : (c : List Bool) → s2.test part.scope c ≡ ((s0.test path c && list_all (Fits c) (Before c)) && Fits c (Next c))
    part_scope c = k.scope c ∙ (λ j. h.elements.fits.test c j && same_fits c j)

    part_inside : (c : List Bool) → s2.test part.scope c ≡ true → s2.test path c ≡ true
    part_inside c t = (Extends-trans h.extends e).test path c known ∙ both_first (s0.test path c) _ (both_first (s0.test path c && list_all (Fits c) (Before c)) _ (sym (part_scope c) ∙ t))

    here : (c : List Bool) → s0.test path c ≡ true → s2.test part.scope c ≡ (list_all (Fits c) (Before c) && Fits c (Next c))
    here c t = part_scope c ∙ ap (λ b. (b && list_all (Fits c) (Before c)) && Fits c (Next c)) t

    next_value : (c : List Bool) → s0.test path c ≡ true → option_map (value_of s2 heap c) (cond_at s2 part c) ≡ (if list_all (Fits c) (Before c) && Fits c (Next c) then Some (Next c) else None)
    next_value c t = cases (s2.test part.scope c) refl ∙ ap (λ b. if b then Some (Next c) else None) (here c t)
      where
        cases : (b : Bool) → s2.test part.scope c ≡ b → option_map (value_of s2 heap c) (cond_at s2 part c) ≡ (if b then Some (Next c) else None)
        cases true q = ap (option_map (value_of s2 heap c)) (value_there s2 part c k.is_cond q) ∙ ap Some (k.at c q ∙ same_element c)
        cases false q = ap (option_map (value_of s2 heap c)) (no_value_there s2 part c k.is_cond q)

    test_more : (c : List Bool) → s2.test part.scope c ≡ (s0.test path c && list_all (Fits c) (elements_at s0 heap array from (i + 1) c))
    test_more c =
        part_scope c
        ∙ grouped (s0.test path c) (list_all (Fits c) (Before c)) (Fits c (Next c))
        ∙ both_where (s0.test path c) _ _ (λ t. sym (ap (list_all (Fits c)) (more_elements c t) ∙ all-more (Fits c) (Before c) (Next c)))
      where
        grouped : (a b d : Bool) → ((a && b) && d) ≡ (a && (b && d))
        grouped true b d = refl
        grouped false b d = refl

    pub IsPutting-step : IsPutting p component s0 s2 heap array from (i + 1) path (record row { conds = row.conds ++ part ∷ [] }) part.scope
    IsPutting-step = record {
      extends = Extends-trans h.extends e;
      scope = h.scope;
      elements = record {
        are_parts = parts_more s2 heap path row.conds part (parts_later e heap path row.conds (IsHeap-extends h.extends heap v) (h.extends.known path known) h.elements.are_parts)
            (record { is_cond = k.is_cond; inside = record { inside = part_inside }; held = k.held });
        number = number_more row.conds part ∙ ap (λ n. n + 1) h.elements.number;
        fits = record { known = (cond_known slot_cmp s2 part k.is_cond).0; test = test_more };
        at = λ c t.
            values_more s2 heap row.conds part c
            ∙ (λ j. values_later e heap path row.conds (IsHeap-extends h.extends heap v) h.elements.are_parts c j ++ next_value c t j ∷ [])
            ∙ ap (λ others. others ++ (if list_all (Fits c) (Before c) && Fits c (Next c) then Some (Next c) else None) ∷ []) (h.elements.at c t)
            ∙ sym (ap (front (Fits c)) (more_elements c t) ∙ front-more (Fits c) (Before c) (Next c));
      };
    }

pub putting_inside : {S I : Type 0} (p : Program) (component : Option ClassId) {s0 s1 : Sets I} (heap : HeapView S I) (array from i : ℕ) (path fitting : I) (row : Conditionals Slot S I) → IsHeap s0 heap → array < length heap.objects → IsInside s0 path (object_in heap array).presence → IsPutting p component s0 s1 heap array from i path row fitting → IsInside s1 fitting (object_in heap array).presence
putting_inside p component {s0 = s0} {s1 = s1} heap array from i path fitting row v there inside h = record {
  inside = λ c t.
      let o = object_in heap array in
      h.extends.test o.presence c (is_object_in s0 heap array o v there refl).known
      ∙ inside.inside c (both_first (s0.test path c) _ (sym (h.elements.fits.test c) ∙ t));
}

pub IsPutting-end : {S I : Type 0} (p : Program) (component : Option ClassId) (s0 s1 : Sets I) (heap : HeapView S I) (array from count i : ℕ) (path fitting : I) (row : Conditionals Slot S I) → i ≡ count → IsPutting p component s0 s1 heap array from i path row fitting → AreElements p component s0 s1 heap array from count path row.conds fitting
IsPutting-end p component s0 s1 heap array from count i path fitting row all h =
    let P : ℕ → Type 0 = λ n. AreElements p component s0 s1 heap array from n path row.conds fitting in
    subst P all h.elements
