-- What writing values to the cells at conditional places makes of a heap.
use Rattle.std.proofs.Common.{◌≡◌, ℕ, ◌+◌, ◌<◌, ◌≤◌, zero, suc, Bool, true, false, List, [], ◌∷◌, refl, sym, ◌∙◌, ap, arith, take, get_or, length}
use Rattle.std.proofs.lemmas.List.{take_all}
use Rattle.std.specs.Prelude.{Option, Some, None, is_some, slice_get, if◌then◌else◌, unwrap_or}
use Rattle.vx_list.specs.Places.{item_or}
use Rattle.vx_space.specs.Sets.{Sets, Extends, IsLawful}
use Rattle.vx_space.proofs.Spaces.{Extends-refl, Extends-trans}
use Rattle.vx_cond.specs.declared.cond.Leaf.{Leaf}
use Rattle.vx_cond.specs.Leaves.{value_at, value_within}
use Rattle.vx_cond.specs.Cond.{Conditional, IsCond, IsCondOf, IsInside, cond_at}
use Rattle.vx_cond.specs.Slots.{or_top, slot_at}
use Rattle.vx_cond.proofs.CondLaws.{IsCond-extends, cond_at-extends, cond_at-of}
use Rattle.vx_cond.proofs.LeafLoops.{IsNext, next_leaf}
use Rattle.vx_group_states.proofs.Gathering.{AreLeaves-of, leaf_value}
use Rattle.vx_heap.specs.declared.object.HeapObject.{HeapObject}
use Rattle.vx_heap.specs.Changing.{Grows, IsCellWritten, IsChangedIn, IsValueHeld, with_cell_of}
use Rattle.vx_heap.specs.Heap.{HeapView, IsHeap, globals_at, is_held, is_object_held, name_at, no_heap_object, object_in, value_of}
use Rattle.vx_heap.proofs.Growing.{Grows-refl, Grows-trans, is_held-grown, value_of-grown}
use Rattle.vx_heap.proofs.HeapLaws.{globals_at-extends}
use Rattle.vx_heap.proofs.Known.{cond_known}
use Rattle.vx_heap.proofs.Written.{restricted_scope, within_there}
use Rattle.vx_java.specs.Machine.{Ref as RefValue}
use Rattle.vx_value.specs.Slot.{slot_cmp}
use Rattle.vx_value.specs.declared.slot.Slot.{Slot}
use Rattle.vx_value.specs.declared.slot.Slot.TheVariants.{Ref}
use Rattle.vx_cells.specs.Places.{place_cmp}
use Rattle.vx_cells.specs.Through.{ArePlacesHeld, is_cell, is_place_held, place_at, written_at, written_through}
use Rattle.vx_cells.specs.declared.place.Place.{Place}
use Rattle.vx_cells.specs.declared.place.Place.TheVariants.{At, Illegal, Null, Outside, Refused}
use Rattle.vx_cells.proofs.Somewhere.{leaf_somewhere}

-- ---- a leaf that is a cell

-- what a reference names is there
object_held : {S I : Type 0} (sets : Sets I) (c : List Bool) (os : List (HeapObject S I)) (r : ℕ) (d : HeapObject S I) → is_object_held sets c (slice_get os r) ≡ true → (r < length os) × (sets.test (item_or os r d).presence c ≡ true)
object_held sets c [] r d h = cc
object_held sets c (o ∷ os) zero d h = (omega arith, h)
object_held sets c (o ∷ os) (suc r) d h = let rest = object_held sets c os r d h in (omega (arith, rest.0), rest.1)

pub reference_held : {S I : Type 0} (sets : Sets I) (heap : HeapView S I) (c : List Bool) (r : ℕ) → is_held sets heap c (Ref r) ≡ true → (r < length heap.objects) × (sets.test (object_in heap r).presence c ≡ true)
reference_held sets heap c r h = object_held sets c heap.objects r (no_heap_object heap.allowed) h

-- the place at a configuration of a leaf
pub leaf_place : {S I : Type 0} (sets : Sets I) (places : Conditional Place S I) (i : ℕ) (x : Leaf Place S I) (c : List Bool) → IsCond place_cmp sets places → i < length places.leaves → x ≡ get_or places.leaves i x → sets.test x.condition c ≡ true → (place_at sets places c ≡ x.value) × (sets.test places.scope c ≡ true)
unfolding IsCond
leaf_place sets places i x c v l e t =
    let value = leaf_value place_cmp sets places.leaves i x c (AreLeaves-of place_cmp sets places v) l e t in
    (ap (λ o. unwrap_or o Illegal) value, sym (v.covers c) ∙ ap is_some value)

-- what the places name is held over a later space and a heap that grew
pub leaf_held : {S I : Type 0} {s0 s1 : Sets I} → Extends s0 s1 → (before now : HeapView S I) (places : Conditional Place S I) (i : ℕ) (x : Leaf Place S I) (r cell : ℕ) → IsHeap s0 before → Grows before now → IsCond place_cmp s0 places → ArePlacesHeld s0 before places → i < length places.leaves → x ≡ get_or places.leaves i x → x.value ≡ At r cell → (c : List Bool) → s0.test x.condition c ≡ true → (is_held s0 before c (Ref r) ≡ true) × (is_held s1 now c (Ref r) ≡ true)
leaf_held {s0 = s0} e before now places i x r cell v k w h l q is c t =
    let place = leaf_place s0 places i x c w l q t in
    let held : is_held s0 before c (Ref r) ≡ true = sym (ap (is_place_held s0 before c) (place.0 ∙ is)) ∙ h.held c place.1 in
    (held, is_held-grown e before now v k c (Ref r) held)

-- its object is there in the condition of the leaf
pub leaf_object : {S I : Type 0} {s0 s1 : Sets I} → IsLawful s0 → Extends s0 s1 → (heap : HeapView S I) (places : Conditional Place S I) (i : ℕ) (x : Leaf Place S I) (r cell : ℕ) → IsHeap s0 heap → IsCond place_cmp s0 places → ArePlacesHeld s0 heap places → i < length places.leaves → x ≡ get_or places.leaves i x → x.value ≡ At r cell → (r < length heap.objects) × IsInside s1 x.condition (object_in heap r).presence
leaf_object {s0 = s0} {s1 = s1} lawful e heap places i x r cell v w h l q is = (
  (let some = leaf_somewhere place_cmp lawful places.leaves i x (AreLeaves-of place_cmp s0 places w) l q in (object some.config some.inside).0),
  record { inside = λ c t. (object c (sym (e.test x.condition c (next_leaf place_cmp s0 places.leaves i x (AreLeaves-of place_cmp s0 places w) l q).known) ∙ t)).1 },
)
  where
    object : (c : List Bool) → s0.test x.condition c ≡ true → (r < length heap.objects) × (s1.test (object_in heap r).presence c ≡ true)
    object c t = reference_held s1 heap c r ((leaf_held e heap heap places i x r cell v (Grows-refl heap) w h l q is c t).1)

-- a leaf that is none
pub no_cell : (place : Place) → ((reference cell : ℕ) → place ≡ At reference cell → ⊥) → is_cell place ≡ false
no_cell Illegal other = refl
no_cell Null other = refl
no_cell (Outside i) other = refl
no_cell Refused other = refl
no_cell (At r cell) other = absurd (other r cell refl)

-- ---- the loop over the leaves

abbrev pub is_cell_of : Option Place → Bool
is_cell_of None = false
is_cell_of (Some place) = is_cell place

-- the values of so many leaves were written
pub record IsWriting {S I : Type 0} (start sets : Sets I) (before now : HeapView S I) (places : Conditional Place S I) (values : Conditional Slot S I) (i : ℕ) : Type 0 where
  pub extends : Extends start sets
  pub changed : IsChangedIn start sets before now (λ c. is_cell_of (value_at start (take i places.leaves) c)) (written_through start before places values)

pub IsWriting-start : {S I : Type 0} (sets : Sets I) (heap : HeapView S I) (places : Conditional Place S I) (values : Conditional Slot S I) → IsHeap sets heap → IsWriting sets sets heap heap places values 0
IsWriting-start sets heap places values v = record {
  extends = Extends-refl sets;
  changed = record {
    is_heap = v;
    grows = Grows-refl heap;
    keeps = λ p h. h;
    inside = λ c t. cc t;
    outside = λ c t. refl;
  };
}

-- a leaf that is no cell
pub IsWriting-skip : {S I : Type 0} (s0 s1 : Sets I) (before now : HeapView S I) (places : Conditional Place S I) (values : Conditional Slot S I) (i : ℕ) (x : Leaf Place S I) → IsCond place_cmp s0 places → i < length places.leaves → x ≡ get_or places.leaves i x → is_cell x.value ≡ false → IsWriting s0 s1 before now places values i → IsWriting s0 s1 before now places values (i + 1)
IsWriting-skip {S = S} {I = I} s0 s1 before now places values i x v l e n w =
    let next = next_leaf place_cmp s0 places.leaves i x (AreLeaves-of place_cmp s0 places v) l e in
    let same : (c : List Bool) → is_cell_of (value_at s0 (take (i + 1) places.leaves) c) ≡ is_cell_of (value_at s0 (take i places.leaves) c) = λ c. ap is_cell_of (next.more c) ∙ cases (s0.test x.condition c) (value_at s0 (take i places.leaves) c) (λ t. next.before.none c t) in
    record {
      extends = w.extends;
      changed = record {
        is_heap = w.changed.is_heap;
        grows = w.changed.grows;
        keeps = w.changed.keeps;
        inside = λ c t. w.changed.inside c (sym (same c) ∙ t);
        outside = λ c t. w.changed.outside c (sym (same c) ∙ t);
      };
    }
  where
    cases : (b : Bool) (o : Option Place) → (b ≡ true → o ≡ None) → is_cell_of (if b then Some x.value else o) ≡ is_cell_of o
    cases true o f = n ∙ sym (ap is_cell_of (f refl))
    cases false o f = refl

name_of : {S I : Type 0} {s0 s1 : Sets I} → Extends s0 s1 → (before now : HeapView S I) → IsHeap s0 before → Grows before now → (c : List Bool) (r : ℕ) → is_held s0 before c (Ref r) ≡ true → name_at s1 now.objects c r ≡ name_at s0 before.objects c r
name_of {s0 = s0} {s1 = s1} e before now v k c r h = same (name_at s1 now.objects c r) (name_at s0 before.objects c r) (value_of-grown e before now v k c (Ref r) h)
  where
    same : (a b : ℕ) → RefValue a ≡ RefValue b → a ≡ b
    same a b q = cc q

-- ---- the values of a leaf

-- the values inside the condition of a leaf
pub record IsLeafValue {S I : Type 0} (start sets : Sets I) (values : Conditional Slot S I) (condition : I) (made : Conditional Slot S I) : Type 0 where
  pub test : (c : List Bool) → sets.test made.scope c ≡ start.test condition c
  pub slot : (c : List Bool) → start.test condition c ≡ true → slot_at sets made c ≡ slot_at start values c
  pub within : (c : List Bool) → start.test condition c ≡ true → start.test values.scope c ≡ true

pub leaf_values : {S I : Type 0} {s0 s1 s2 : Sets I} → IsLawful s2 → Extends s0 s1 → Extends s1 s2 → (places : Conditional Place S I) (values made : Conditional Slot S I) (i : ℕ) (x : Leaf Place S I) → IsCond place_cmp s0 places → IsCond slot_cmp s0 values → values.scope ≡ places.scope → i < length places.leaves → x ≡ get_or places.leaves i x → IsCondOf slot_cmp s2 (value_within s1 x.condition (cond_at s1 values)) made → IsLeafValue s0 s2 values x.condition made
leaf_values {s0 = s0} {s1 = s1} {s2 = s2} lawful d e places values made i x w u scopes l q m = record {
  test = λ c. ap (λ s. s2.test s c) scope ∙ (Extends-trans d e).test x.condition c next.known;
  slot = λ c t.
      ap or_top (cond_at-of slot_cmp s2 (value_within s1 x.condition (cond_at s1 values)) made c m ∙ within_there (s1.test x.condition c) (cond_at s1 values c) (condition c ∙ t))
      ∙ ap or_top (cond_at-extends slot_cmp d values u c);
  within = within;
}
  where
    next : IsNext s0 places.leaves i x
    next = next_leaf place_cmp s0 places.leaves i x (AreLeaves-of place_cmp s0 places w) l q

    condition : (c : List Bool) → s1.test x.condition c ≡ s0.test x.condition c
    condition c = d.test x.condition c next.known

    within : (c : List Bool) → s0.test x.condition c ≡ true → s0.test values.scope c ≡ true
    within c t = ap (λ s. s0.test s c) scopes ∙ (leaf_place s0 places i x c w l q t).1

    scope : made.scope ≡ x.condition
    scope =
        restricted_scope slot_cmp lawful e values made x.condition (IsCond-extends slot_cmp d values u) (d.known x.condition next.known)
        (record { inside = λ c t. d.test values.scope c ((cond_known slot_cmp s0 values u).0) ∙ within c (sym (condition c) ∙ t) })
        m

-- the value may be written to a cell of the object
pub record IsWritable {S I : Type 0} (sets : Sets I) (heap : HeapView S I) (reference : ℕ) (value : Conditional Slot S I) : Type 0 where
  pub there : reference < length heap.objects
  pub inside : IsInside sets value.scope (object_in heap reference).presence
  pub held : IsValueHeld sets heap value

pub writable : {S I : Type 0} {s0 s1 s2 : Sets I} → IsLawful s0 → IsLawful s2 → Extends s1 s2 → (before now : HeapView S I) (places : Conditional Place S I) (values made : Conditional Slot S I) (i : ℕ) (x : Leaf Place S I) (r cell : ℕ) → IsHeap s0 before → IsCond place_cmp s0 places → IsCond slot_cmp s0 values → values.scope ≡ places.scope → ArePlacesHeld s0 before places → IsValueHeld s0 before values → i < length places.leaves → x ≡ get_or places.leaves i x → x.value ≡ At r cell → IsWriting s0 s1 before now places values i → IsCondOf slot_cmp s2 (value_within s1 x.condition (cond_at s1 values)) made → IsWritable s2 now r made
writable {s0 = s0} {s1 = s1} {s2 = s2} first lawful e before now places values made i x r cell v w u scopes objects held l q is h m = record {
  there = (let some = leaf_somewhere place_cmp first places.leaves i x (AreLeaves-of place_cmp s0 places w) l q in (object some.config some.inside).0);
  inside = record { inside = λ c t. (object c (sym (value.test c) ∙ t)).1 };
  held = record {
    held = λ c t.
        let here : s0.test x.condition c ≡ true = sym (value.test c) ∙ t in
        ap (is_held s2 now c) (value.slot c here) ∙ is_held-grown to2 before now v h.changed.grows c (slot_at s0 values c) (held.held c (value.within c here));
  };
}
  where
    to2 : Extends s0 s2
    to2 = Extends-trans h.extends e

    value : IsLeafValue s0 s2 values x.condition made
    value = leaf_values lawful h.extends e places values made i x w u scopes l q m

    object : (c : List Bool) → s0.test x.condition c ≡ true → (r < length now.objects) × (s2.test (object_in now r).presence c ≡ true)
    object c t = reference_held s2 now c r ((leaf_held to2 before now places i x r cell v h.changed.grows w objects l q is c t).1)

-- a leaf that is a cell, to which its values were written
pub IsWriting-step : {S I : Type 0} {s0 s1 s2 s3 : Sets I} → IsLawful s2 → Extends s1 s2 → Extends s2 s3 → (before now after : HeapView S I) (places : Conditional Place S I) (values made : Conditional Slot S I) (i : ℕ) (x : Leaf Place S I) (r cell : ℕ) → IsHeap s0 before → IsCond place_cmp s0 places → IsCond slot_cmp s0 values → values.scope ≡ places.scope → ArePlacesHeld s0 before places → IsValueHeld s0 before values → i < length places.leaves → x ≡ get_or places.leaves i x → x.value ≡ At r cell → IsWriting s0 s1 before now places values i → IsCondOf slot_cmp s2 (value_within s1 x.condition (cond_at s1 values)) made → IsCellWritten s2 s3 now r cell made after → IsWriting s0 s3 before after places values (i + 1)
IsWriting-step {S = S} {I = I} {s0 = s0} {s1 = s1} {s2 = s2} {s3 = s3} lawful e f before now after places values made i x r cell v w u scopes objects held l q is h m written =
    record {
      extends = Extends-trans to2 f;
      changed = record {
        is_heap = written.is_heap;
        grows = Grows-trans before now after h.changed.grows written.grows;
        keeps = λ p k. written.keeps p (h.changed.keeps p k);
        inside = λ c t. inside c (s0.test x.condition c) refl (sym (ap is_cell_of (next.more c)) ∙ t);
        outside = λ c t. outside c (s0.test x.condition c) refl (sym (ap is_cell_of (next.more c)) ∙ t);
      };
    }
  where
    next : IsNext s0 places.leaves i x
    next = next_leaf place_cmp s0 places.leaves i x (AreLeaves-of place_cmp s0 places w) l q

    to2 : Extends s0 s2
    to2 = Extends-trans h.extends e

    values_of : IsLeafValue s0 s2 values x.condition made
    values_of = leaf_values lawful h.extends e places values made i x w u scopes l q m

    now_same : (c : List Bool) → globals_at s2 now c ≡ globals_at s1 now c
    now_same c = globals_at-extends e now h.changed.is_heap c

    value : (c : List Bool) → s0.test x.condition c ≡ true → value_of s2 now c (slot_at s2 made c) ≡ value_of s0 before c (slot_at s0 values c)
    value c t = ap (value_of s2 now c) (values_of.slot c t) ∙ value_of-grown to2 before now v h.changed.grows c (slot_at s0 values c) (held.held c (values_of.within c t))

    place : (c : List Bool) → s0.test x.condition c ≡ true → written_through s0 before places values c (globals_at s0 before c) ≡ with_cell_of (name_at s0 before.objects c r) cell (value_of s0 before c (slot_at s0 values c)) (globals_at s0 before c)
    place c t = ap (λ p. written_at s0 before c (value_of s0 before c (slot_at s0 values c)) p (globals_at s0 before c)) ((leaf_place s0 places i x c w l q t).0 ∙ is)

    inside : (c : List Bool) (b : Bool) → s0.test x.condition c ≡ b → is_cell_of (if b then Some x.value else value_at s0 (take i places.leaves) c) ≡ true → globals_at s3 after c ≡ written_through s0 before places values c (globals_at s0 before c)
    inside c true t n =
        written.inside c (values_of.test c ∙ t)
        ∙ (
        let name = name_of to2 before now v h.changed.grows c r ((leaf_held h.extends before now places i x r cell v h.changed.grows w objects l q is c t).0) in
        let globals = now_same c ∙ h.changed.outside c (ap is_cell_of (next.before.none c t)) in
        λ j. with_cell_of (name j) cell (value c t j) (globals j))
        ∙ sym (place c t)
    inside c false t n = written.outside c (values_of.test c ∙ t) ∙ now_same c ∙ h.changed.inside c n

    outside : (c : List Bool) (b : Bool) → s0.test x.condition c ≡ b → is_cell_of (if b then Some x.value else value_at s0 (take i places.leaves) c) ≡ false → globals_at s3 after c ≡ globals_at s0 before c
    outside c true t n = absurd (both (sym (ap is_cell is) ∙ n))
      where
        both : true ≡ false → ⊥
        both q = cc q
    outside c false t n = written.outside c (values_of.test c ∙ t) ∙ now_same c ∙ h.changed.outside c n

-- after the last leaf
pub IsWriting-end : {S I : Type 0} (s0 s1 : Sets I) (before now : HeapView S I) (places : Conditional Place S I) (values : Conditional Slot S I) (i : ℕ) → length places.leaves ≤ i → IsWriting s0 s1 before now places values i → IsChangedIn s0 s1 before now (λ c. is_cell (place_at s0 places c)) (written_through s0 before places values)
IsWriting-end s0 s1 before now places values i l w = record {
  is_heap = w.changed.is_heap;
  grows = w.changed.grows;
  keeps = w.changed.keeps;
  inside = λ c t. w.changed.inside c (same c ∙ t);
  outside = λ c t. w.changed.outside c (same c ∙ t);
}
  where
    of : (o : Option Place) → is_cell_of o ≡ is_cell (unwrap_or o Illegal)
    of None = refl
    of (Some place) = refl

    same : (c : List Bool) → is_cell_of (value_at s0 (take i places.leaves) c) ≡ is_cell (place_at s0 places c)
    same c = ap (λ ys. is_cell_of (value_at s0 ys c)) (take_all i places.leaves l) ∙ of (cond_at s0 places c)
