-- What is thrown out of an initialisation: where it is no Error it is wrapped.
use Rattle.std.proofs.Common.{◌≡◌, ℕ, Bool, true, false, List, refl, sym, ◌∙◌, ap, length}
use Rattle.std.specs.Ordering.{bool_cmp}
use Rattle.std.specs.Prelude.{Option, Some, None, ◌&&◌, if◌then◌else◌, is_some, not}
use Rattle.std.specs.Option.{option_or}
use Rattle.vx_cond.specs.Cond.{Conditional, IsCond, IsCondLifting, IsCondOf, IsInside, cond_at}
use Rattle.vx_cond.specs.Leaves.{first_of, value_within}
use Rattle.vx_cond.specs.Slots.{or_top, slot_at}
use Rattle.vx_cond.proofs.CondLaws.{IsCond-extends, IsCond-of, cond_at-extends, cond_at-of}
use Rattle.vx_cond.proofs.RowLaws.{scope_is}
use Rattle.vx_cond.proofs.SideLaws.{cond_at-covers}
use Rattle.vx_frames.proofs.ClassLaws.{class_there}
use Rattle.vx_group_states.proofs.AnswerLaws.{values_scope}
use Rattle.vx_group_states.proofs.StateLaws.{both_first}
use Rattle.vx_group_states.specs.Stands.{is_object, object_named}
use Rattle.vx_families.proofs.ChangeLaws.{changed_later}
use Rattle.vx_heap.proofs.Growing.{Grows-refl, is_held-grown}
use Rattle.vx_heap.proofs.HeapLaws.{IsHeap-extends, globals_at-extends, is_held-extends, name_at-extends, value_of-extends}
use Rattle.vx_heap.proofs.Written.{either_scope, some_within, within_there}
use Rattle.vx_heap.specs.Changing.{IsChangedIn, IsValueHeld, with_object}
use Rattle.vx_heap.specs.Heap.{Globals, HeapView, globals_at, is_held, objects_at, value_of}
use Rattle.vx_java.specs.Machine.{Null as NullValue, Ref as RefValue}
use Rattle.vx_java.specs.Throwing.{throwable}
use Rattle.vx_link.specs.ClassNames.{core_class}
use Rattle.vx_link.specs.declared.program.Program.{Program}
use Rattle.vx_ready.proofs.Yes.{IsSet-asked}
use Rattle.vx_ready.specs.Initialising.{is_yes}
use Rattle.vx_space.proofs.Spaces.{Extends-trans}
use Rattle.vx_space.specs.Sets.{Extends, IsLawful, IsSet, Sets}
use Rattle.vx_value.specs.Slot.{slot_cmp}
use Rattle.vx_value.specs.declared.slot.Slot.{Slot}
use Rattle.vx_value.specs.declared.slot.Slot.TheVariants.{Top, Int, Long, Null, Ref, Text}
use Rattle.vx_throw.proofs.Within.{named_later, object_value, scope_known, slot_later, thrown_later}
use Rattle.vx_throw.specs.Flights.{thrown_at}
use Rattle.vx_throw.specs.Landings.{AreObjectsHeld}
use Rattle.vx_throw.specs.Leaving.{AreWrapped, MayWrap, is_error_at, is_error_in, is_error_of, is_other_in, wrapped, wrapped_object, wrapper_of}
use Rattle.vx_throw.specs.Making.{IsMadeIn, IsThrowableMade}

-- ---- which objects are Errors

only_inside : (o : Option Slot) (b : Bool) → is_some o ≡ b → o ≡ (if b then Some (or_top o) else None)
only_inside None true h = cc h
only_inside None false h = refl
only_inside (Some slot) true h = refl
only_inside (Some slot) false h = cc h

-- where the answer of the question is yes there are the others
pub others_are : {S I : Type 0} (p : Program) (s0 s1 : Sets I) (heap : HeapView S I) (objects : Conditional Slot S I) (R : Slot → Bool → Type 0) (answers : Conditional Bool S I) (error : ℕ) (set : I) → error ≡ core_class p "java/lang/Error" → ((slot : Slot) (b : Bool) → R slot b → b ≡ not (is_error_at p heap error slot)) → IsCond slot_cmp s0 objects → IsCondLifting bool_cmp s1 R (cond_at s0 objects) answers → IsSet s1 set (λ c. is_yes (cond_at s1 answers c)) → IsSet s1 set (is_other_in p s0 heap objects)
others_are p s0 s1 heap objects R answers error set same law v l s =
    let asked = IsSet-asked s0 s0 s1 R (λ slot. not (is_error_at p heap error slot)) objects.scope (slot_at s0 objects) objects answers set law (λ c. only_inside (cond_at s0 objects c) (s0.test objects.scope c) (cond_at-covers slot_cmp s0 objects v c)) l s in
    record { known = asked.known; test = λ c. asked.test c ∙ ap (λ n. s0.test objects.scope c && not (is_error_at p heap n (slot_at s0 objects c))) same }

-- they are inside the scope
pub others_inside : {S I : Type 0} (p : Program) (sets : Sets I) (heap : HeapView S I) (objects : Conditional Slot S I) (path : I) → IsSet sets path (is_other_in p sets heap objects) → IsInside sets path objects.scope
others_inside p sets heap objects path others = record { inside = λ c t. both_first (sets.test objects.scope c) (not (is_error_at p heap (core_class p "java/lang/Error") (slot_at sets objects c))) (sym (others.test c) ∙ t) }

-- an Error by the slot is one by the object that it names
error_there : {S I : Type 0} (p : Program) (sets : Sets I) (heap : HeapView S I) (c : List Bool) (slot : Slot) → is_object slot ≡ true → is_held sets heap c slot ≡ true → is_error_at p heap (core_class p "java/lang/Error") slot ≡ is_error_in p (objects_at sets heap c) (object_named sets heap c slot)
error_there p sets heap c Top o h = cc
error_there p sets heap c (Int n) o h = cc
error_there p sets heap c (Long n) o h = cc
error_there p sets heap c Null o h = cc
error_there p sets heap c (Ref i) o h = ap (is_error_of p (core_class p "java/lang/Error")) (class_there sets heap c i (objects_at sets heap c) refl h)
error_there p sets heap c (Text n) o h = cc

-- at a configuration of the scope
pub error_at : {S I : Type 0} (p : Program) (sets : Sets I) (heap : HeapView S I) (objects : Conditional Slot S I) → MayWrap p sets heap objects → (c : List Bool) → sets.test objects.scope c ≡ true → is_error_at p heap (core_class p "java/lang/Error") (slot_at sets objects c) ≡ is_error_in p (objects_at sets heap c) (thrown_at sets heap objects c)
error_at p sets heap objects may c t = error_there p sets heap c (slot_at sets objects c) (may.held.object c t) (may.held.held c t)

-- ---- over a later space

module _ {S I : Type 0} (p : Program) {s0 s1 : Sets I} (e : Extends s0 s1) (heap : HeapView S I) (objects : Conditional Slot S I) where
  pub MayWrap-later : MayWrap p s0 heap objects → MayWrap p s1 heap objects
  MayWrap-later may =
      let earlier : (c : List Bool) → s1.test objects.scope c ≡ true → s0.test objects.scope c ≡ true = λ c t. sym (e.test objects.scope c (scope_known s0 objects may.is_cond)) ∙ t in
      record {
        classes = may.classes;
        is_heap = IsHeap-extends e heap may.is_heap;
        is_cond = IsCond-extends slot_cmp e objects may.is_cond;
        held = record {
          object = λ c t. ap is_object (slot_later e objects may.is_cond c) ∙ may.held.object c (earlier c t);
          held = λ c t. ap (is_held s1 heap c) (slot_later e objects may.is_cond c) ∙ is_held-extends e heap may.is_heap c (slot_at s0 objects c) ∙ may.held.held c (earlier c t);
        };
      }

  pub others_later : (path : I) → MayWrap p s0 heap objects → IsSet s1 path (is_other_in p s0 heap objects) → IsSet s1 path (is_other_in p s1 heap objects)
  others_later path may others = record {
    known = others.known;
    test = λ c. others.test c ∙ (λ i. sym (e.test objects.scope c (scope_known s0 objects may.is_cond)) i && not (is_error_at p heap (core_class p "java/lang/Error") (sym (slot_later e objects may.is_cond c) i)));
  }

  pub AreWrapped-before : {s2 : Sets I} (after : HeapView S I) (thrown : Conditional Slot S I) → MayWrap p s0 heap objects → AreWrapped p s1 s2 heap after objects thrown → AreWrapped p s0 s2 heap after objects thrown
  AreWrapped-before {s2 = s2} after thrown may w =
      let scope : (c : List Bool) → s1.test objects.scope c ≡ s0.test objects.scope c = λ c. e.test objects.scope c (scope_known s0 objects may.is_cond) in
      let object : (c : List Bool) → thrown_at s1 heap objects c ≡ thrown_at s0 heap objects c = thrown_later e heap may.is_heap objects may.is_cond in
      let globals : (c : List Bool) → globals_at s1 heap c ≡ globals_at s0 heap c = globals_at-extends e heap may.is_heap in
      record {
        changed = record {
          is_heap = w.changed.is_heap;
          grows = w.changed.grows;
          keeps = w.changed.keeps;
          inside = λ c t. w.changed.inside c (scope c ∙ t) ∙ (λ i. wrapped p (object c i) (globals c i));
          outside = λ c t. w.changed.outside c (scope c ∙ t) ∙ globals c;
        };
        is_cond = w.is_cond;
        scope = w.scope;
        held = w.held;
        named = λ c t. w.named c (scope c ∙ t) ∙ (λ i. wrapped_object p (object c i) (globals c i));
      }

-- ---- the wrapper

module _ {S I : Type 0} (p : Program) {s0 s1 : Sets I} (heap : HeapView S I) (objects cause : Conditional Slot S I) (path : I) (may : MayWrap p s0 heap objects) (known : s0.is_known path ≡ true) (inside : IsInside s0 path objects.scope) (e01 : Extends s0 s1) (k : IsCondOf slot_cmp s1 (value_within s0 path (cond_at s0 objects)) cause) where
  cause_at : (c : List Bool) → s0.test path c ≡ true → slot_at s1 cause c ≡ slot_at s0 objects c
  cause_at c t = ap or_top (cond_at-of slot_cmp s1 (value_within s0 path (cond_at s0 objects)) cause c k ∙ within_there (s0.test path c) (cond_at s0 objects c) t)

  pub cause_scope : IsLawful s1 → cause.scope ≡ path
  cause_scope lawful = values_scope slot_cmp lawful objects cause path e01 known may.is_cond inside k

  pub cause_held : cause.scope ≡ path → IsValueHeld s1 heap cause
  cause_held scope = record {
    held = λ c t.
        let here : s0.test path c ≡ true = sym (e01.test path c known) ∙ ap (λ i. s1.test i c) (sym scope) ∙ t in
        ap (is_held s1 heap c) (cause_at c here) ∙ is_held-extends e01 heap may.is_heap c (slot_at s0 objects c) ∙ may.held.held c (inside.inside c here);
  }

  cause_value : (c : List Bool) → s0.test path c ≡ true → value_of s1 heap c (slot_at s1 cause c) ≡ RefValue (thrown_at s0 heap objects c)
  cause_value c t = ap (value_of s1 heap c) (cause_at c t) ∙ value_of-extends e01 heap may.is_heap c (slot_at s0 objects c) ∙ object_value s0 heap c (slot_at s0 objects c) (may.held.object c (inside.inside c t))

  pub wrapper_made : {s2 : Sets I} (class : ℕ) (after : HeapView S I) (object : ℕ) → class ≡ core_class p "java/lang/ExceptionInInitializerError" → IsThrowableMade p s1 s2 heap path class Null cause after object → IsMadeIn s0 s2 heap path (λ c. wrapper_of p (thrown_at s0 heap objects c)) after object
  wrapper_made class after object same made = record {
    changed = record {
      is_heap = made.changed.is_heap;
      grows = made.changed.grows;
      keeps = made.changed.keeps;
      inside = λ c t. made.changed.inside c (e01.test path c known ∙ t) ∙ (λ i. with_object (throwable p (same i) NullValue (cause_value c t i)) (globals_at-extends e01 heap may.is_heap c i));
      outside = λ c t. made.changed.outside c (e01.test path c known ∙ t) ∙ globals_at-extends e01 heap may.is_heap c;
    };
    held = λ c t. made.held c (e01.test path c known ∙ t);
    name = λ c t. made.name c (e01.test path c known ∙ t) ∙ ap (λ (g : Globals). length g.objects) (globals_at-extends e01 heap may.is_heap c);
  }

-- ---- objects of which some are wrapped

stays : (b : Bool) (g w : Globals) → b ≡ true → g ≡ (if b then g else w)
stays b g w h = rw h refl

becomes : (b : Bool) (g w : Globals) → b ≡ false → w ≡ (if b then g else w)
becomes b g w h = rw h refl

named : (b : Bool) (n r m : ℕ) → (b ≡ true → n ≡ r) → (b ≡ false → n ≡ m) → n ≡ (if b then r else m)
named true n r m f h = f refl
named false n r m f h = h refl

-- in the scope all are Errors
pub AreWrapped-none : {S I : Type 0} (p : Program) {s0 s1 : Sets I} → Extends s0 s1 → (heap : HeapView S I) (objects : Conditional Slot S I) (path : I) → IsLawful s1 → MayWrap p s0 heap objects → IsSet s1 path (is_other_in p s0 heap objects) → path ≡ s1.never → IsCond slot_cmp s1 objects → AreWrapped p s0 s1 heap heap objects objects
AreWrapped-none p {s0 = s0} {s1 = s1} e heap objects path lawful may others never v =
    let error : (c : List Bool) → s0.test objects.scope c ≡ true → is_error_in p (objects_at s0 heap c) (thrown_at s0 heap objects c) ≡ true = λ c t. sym (error_at p s0 heap objects may c t) ∙ all (s0.test objects.scope c) (is_error_at p heap (core_class p "java/lang/Error") (slot_at s0 objects c)) t (sym (others.test c) ∙ ap (λ i. s1.test i c) never ∙ lawful.never_test c) in
    let known = scope_known s0 objects may.is_cond in
    let same = slot_later e objects may.is_cond in
    let there : (c : List Bool) → s1.test objects.scope c ≡ true → s0.test objects.scope c ≡ true = λ c t. sym (e.test objects.scope c known) ∙ t in
    record {
      changed = record {
        is_heap = IsHeap-extends e heap may.is_heap;
        grows = Grows-refl heap;
        keeps = λ p h. h;
        inside = λ c t. globals_at-extends e heap may.is_heap c ∙ stays (is_error_in p (objects_at s0 heap c) (thrown_at s0 heap objects c)) (globals_at s0 heap c) (with_object (wrapper_of p (thrown_at s0 heap objects c)) (globals_at s0 heap c)) (error c t);
        outside = λ c t. globals_at-extends e heap may.is_heap c;
      };
      is_cond = v;
      scope = refl;
      held = record {
        object = λ c t. ap is_object (same c) ∙ may.held.object c (there c t);
        held = λ c t. ap (is_held s1 heap c) (same c) ∙ is_held-extends e heap may.is_heap c (slot_at s0 objects c) ∙ may.held.held c (there c t);
      };
      named = λ c t.
          named (is_error_in p (objects_at s0 heap c) (thrown_at s0 heap objects c)) (thrown_at s1 heap objects c) (thrown_at s0 heap objects c) (length (objects_at s0 heap c))
          (λ h. ap (object_named s1 heap c) (same c) ∙ named_later e heap heap may.is_heap (Grows-refl heap) c (slot_at s0 objects c) (may.held.object c t) (may.held.held c t))
          (λ h. cc (h, error c t));
    }
  where
    all : (a b : Bool) → a ≡ true → (a && not b) ≡ false → b ≡ true
    all true true h k = refl
    all true false h k = cc k
    all false b h k = cc h

-- in a path they are no Errors, and a wrapper was made there
module _ {S I : Type 0} (p : Program) {s0 s1 : Sets I} (heap after : HeapView S I) (objects one : Conditional Slot S I) (path : I) (object : ℕ) (may : MayWrap p s0 heap objects) (others : IsSet s0 path (is_other_in p s0 heap objects)) (e01 : Extends s0 s1) (made : IsMadeIn s0 s1 heap path (λ c. wrapper_of p (thrown_at s0 heap objects c)) after object) (one_is : IsCondOf slot_cmp s1 (value_within s1 path (λ _. Some (Ref object))) one) where
  -- the wrappers are put over objects that are there
  pub one_inside : one.scope ≡ path → IsInside s1 one.scope objects.scope
  one_inside e = record {
    inside = λ c t.
        let here : s0.test path c ≡ true = sym (e01.test path c others.known) ∙ ap (λ i. s1.test i c) (sym e) ∙ t in
        e01.test objects.scope c (scope_known s0 objects may.is_cond) ∙ (others_inside p s0 heap objects path others).inside c here;
  }

  one_at : (c : List Bool) → cond_at s1 one c ≡ (if s0.test path c then Some (Ref object) else None)
  one_at c = cond_at-of slot_cmp s1 (value_within s1 path (λ _. Some (Ref object))) one c one_is ∙ ap (λ b. if b then Some (Ref object) else None) (e01.test path c others.known)

  module _ {s2 : Sets I} (thrown : Conditional Slot S I) (e12 : Extends s1 s2) (k : IsCondOf slot_cmp s2 (first_of (cond_at s1 one) (cond_at s1 objects)) thrown) where
    slot_is : (c : List Bool) → slot_at s2 thrown c ≡ (if s0.test path c then Ref object else slot_at s0 objects c)
    slot_is c =
        ap or_top (cond_at-of slot_cmp s2 (first_of (cond_at s1 one) (cond_at s1 objects)) thrown c k ∙ (λ i. option_or (one_at c i) (cond_at-extends slot_cmp e01 objects may.is_cond c i)))
        ∙ first (s0.test path c) (cond_at s0 objects c)
      where
        first : (b : Bool) (o : Option Slot) → or_top (option_or (if b then Some (Ref object) else None) o) ≡ (if b then Ref object else or_top o)
        first true o = refl
        first false o = refl

    -- whether it is an Error at a configuration of the scope
    abbrev error : List Bool → Bool
    error c = is_error_in p (objects_at s0 heap c) (thrown_at s0 heap objects c)

    path_is : (c : List Bool) → s0.test objects.scope c ≡ true → s0.test path c ≡ not (error c)
    path_is c t = others.test c ∙ (λ i. t i && not (error_at p s0 heap objects may c t i))

    path_off : (c : List Bool) → s0.test objects.scope c ≡ false → s0.test path c ≡ false
    path_off c t = others.test c ∙ ap (λ b. b && not (is_error_at p heap (core_class p "java/lang/Error") (slot_at s0 objects c))) t

    kept_slot : (c : List Bool) → s0.test path c ≡ false → slot_at s2 thrown c ≡ slot_at s0 objects c
    kept_slot c f = slot_is c ∙ ap (λ b. if b then Ref object else slot_at s0 objects c) f

    new_slot : (c : List Bool) → s0.test path c ≡ true → slot_at s2 thrown c ≡ Ref object
    new_slot c t = slot_is c ∙ ap (λ b. if b then Ref object else slot_at s0 objects c) t

    to2 : Extends s0 s2
    to2 = Extends-trans e01 e12

    changed : IsChangedIn s0 s1 heap after (s0.test objects.scope) (λ c. wrapped p (thrown_at s0 heap objects c))
    changed = record {
      is_heap = made.changed.is_heap;
      grows = made.changed.grows;
      keeps = made.changed.keeps;
      inside = λ c t. inside c t (error c) refl;
      outside = λ c t. made.changed.outside c (path_off c t);
    }
      where
        inside : (c : List Bool) → s0.test objects.scope c ≡ true → (b : Bool) → error c ≡ b → globals_at s1 after c ≡ wrapped p (thrown_at s0 heap objects c) (globals_at s0 heap c)
        inside c t true e = made.changed.outside c (path_is c t ∙ ap not e) ∙ stays (error c) (globals_at s0 heap c) (with_object (wrapper_of p (thrown_at s0 heap objects c)) (globals_at s0 heap c)) e
        inside c t false e = made.changed.inside c (path_is c t ∙ ap not e) ∙ becomes (error c) (globals_at s0 heap c) (with_object (wrapper_of p (thrown_at s0 heap objects c)) (globals_at s0 heap c)) e

    held : AreObjectsHeld s2 after objects.scope thrown
    held = record {
      object = λ c t. object_in c (there c t) (s0.test path c) refl;
      held = λ c t. held_in c (there c t) (s0.test path c) refl;
    }
      where
        there : (c : List Bool) → s2.test objects.scope c ≡ true → s0.test objects.scope c ≡ true
        there c t = sym (to2.test objects.scope c (scope_known s0 objects may.is_cond)) ∙ t

        object_in : (c : List Bool) → s0.test objects.scope c ≡ true → (b : Bool) → s0.test path c ≡ b → is_object (slot_at s2 thrown c) ≡ true
        object_in c t true e = ap is_object (new_slot c e)
        object_in c t false e = ap is_object (kept_slot c e) ∙ may.held.object c t

        held_in : (c : List Bool) → s0.test objects.scope c ≡ true → (b : Bool) → s0.test path c ≡ b → is_held s2 after c (slot_at s2 thrown c) ≡ true
        held_in c t true e = ap (is_held s2 after c) (new_slot c e) ∙ is_held-extends e12 after made.changed.is_heap c (Ref object) ∙ made.held c e
        held_in c t false e = ap (is_held s2 after c) (kept_slot c e) ∙ is_held-grown to2 heap after may.is_heap made.changed.grows c (slot_at s0 objects c) (may.held.held c t)

    scope : IsLawful s2 → thrown.scope ≡ objects.scope
    scope lawful =
        scope_is slot_cmp lawful (first_of (cond_at s1 one) (cond_at s1 objects)) thrown objects.scope (s0.test objects.scope) k
        (record { known = to2.known objects.scope (scope_known s0 objects may.is_cond); test = λ c. to2.test objects.scope c (scope_known s0 objects may.is_cond) })
        (λ c. either_scope (cond_at s1 one c) (cond_at s1 objects c) (s0.test path c) (s0.test objects.scope c) (ap is_some (one_at c) ∙ some_within (s0.test path c) (Ref object)) (ap is_some (cond_at-extends slot_cmp e01 objects may.is_cond c) ∙ cond_at-covers slot_cmp s0 objects may.is_cond c) ((others_inside p s0 heap objects path others).inside c))

    pub AreWrapped-made : IsLawful s2 → AreWrapped p s0 s2 heap after objects thrown
    AreWrapped-made lawful = record {
      changed = changed_later e12 heap after (s0.test objects.scope) (λ c. wrapped p (thrown_at s0 heap objects c)) changed;
      is_cond = IsCond-of slot_cmp s2 (first_of (cond_at s1 one) (cond_at s1 objects)) thrown k;
      scope = scope lawful;
      held = held;
      named = λ c t.
          named (error c) (thrown_at s2 after thrown c) (thrown_at s0 heap objects c) (length (objects_at s0 heap c))
          (λ h. ap (object_named s2 after c) (kept_slot c (path_is c t ∙ ap not h)) ∙ named_later to2 heap after may.is_heap made.changed.grows c (slot_at s0 objects c) (may.held.object c t) (may.held.held c t))
          (λ h. ap (object_named s2 after c) (new_slot c (path_is c t ∙ ap not h)) ∙ name_at-extends e12 after made.changed.is_heap c object ∙ made.name c (path_is c t ∙ ap not h));
    }
