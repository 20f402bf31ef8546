-- Values that are written to the cells of an array, and what a copy comes to, at each configuration of a condition.
use Rattle.std.proofs.Common.{◌≡◌, ℕ, ◌+◌, ◌<◌, ◌≤◌, zero, suc, Bool, true, false, List, [], ◌∷◌, ◌++◌, refl, sym, ◌∙◌, ap, arith, get_or, length, subst, take}
use Rattle.std.proofs.Math.ListN.{set}
use Rattle.std.proofs.lemmas.List.{length-map, length-take-le, take_all, take_more}
use Rattle.std.specs.Prelude.{None, Option, Some, option_map, slice_get}
use Rattle.vx_cells.proofs.WrittenThrough.{reference_held}
use Rattle.vx_cond.proofs.CondLaws.{IsCond-extends, cond_at-extends}
use Rattle.vx_cond.specs.Cond.{Conditional, IsCond, IsInside, cond_at}
use Rattle.vx_cond.specs.Row.{Conditionals, conds_at}
use Rattle.vx_cond.specs.Slots.{or_top, slot_at}
use Rattle.vx_group_states.specs.Sites.{IsSomewhere}
use Rattle.vx_families.proofs.NameLaws.{name_stays}
use Rattle.vx_heap.proofs.Growing.{Grows-refl, Grows-trans, is_held-grown, value_of-grown}
use Rattle.vx_heap.proofs.Known.{cond_known}
use Rattle.vx_heap.proofs.Places.{place_of_some}
use Rattle.vx_heap.specs.Changing.{IsCellWritten, IsChangedIn, IsValueHeld, with_cell_of}
use Rattle.vx_heap.specs.Heap.{Globals, HeapView, IsHeap, globals_at, is_held, name_at, object_in, value_of}
use Rattle.vx_java.specs.Machine.{Object, Value, no_object}
use Rattle.vx_list.specs.Places.{item_or}
use Rattle.vx_space.proofs.Spaces.{Extends-refl, Extends-trans}
use Rattle.vx_space.specs.Sets.{Extends, Sets}
use Rattle.vx_value.specs.Slot.{slot_cmp}
use Rattle.vx_value.specs.declared.slot.Slot.{Slot}
use Rattle.vx_value.specs.declared.slot.Slot.TheVariants.{Ref}
use Rattle.vx_effects.specs.Copying.{AreParts, IsPart, values_at, with_values, written_from}
use Rattle.vx_effects.proofs.Copied.{no_value_there, value_there, values_more}
use Rattle.vx_effects.proofs.Fronts.{written-more}

-- ---- the globals

-- one cell that gets a value, or none
abbrev with_one : (object cell : ℕ) → Option Value → Globals → Globals
with_one r cell None g = g
with_one r cell (Some v) g = with_cell_of r cell v g

-- an item that is replaced again
again : {A : Type 0} (xs : List A) (r : ℕ) (x d : A) (f : A → A) → set (set xs r x) r (f (item_or (set xs r x) r d)) ≡ set xs r (f x)
again [] r x d f = refl
again (y ∷ xs) zero x d f = refl
again (y ∷ xs) (suc r) x d f = ap (λ others. y ∷ others) (again xs r x d f)

abbrev with_cells : Object → List Value → Object
with_cells object cells = record object { cells = cells }

globals_more : (r at : ℕ) (values : List (Option Value)) (value : Option Value) (g : Globals) → with_values r at (values ++ value ∷ []) g ≡ with_one r (at + length values) value (with_values r at values g)
globals_more r at values None g =
    let object = item_or g.objects r no_object in
    ap (λ cells. record g { objects = set g.objects r (with_cells object cells) }) (written-more object.cells at values None)
globals_more r at values (Some v) g =
    let object = item_or g.objects r no_object in
    let before = written_from object.cells at values in
    ap (λ cells. record g { objects = set g.objects r (with_cells object cells) }) (written-more object.cells at values (Some v))
    ∙ ap (λ (objects : List Object). record g { objects = objects }) (sym (again g.objects r (with_cells object before) no_object (λ o. with_cells o (set o.cells (at + length values) v))))

-- where nothing is written yet
itself : {A : Type 0} (xs : List A) (r : ℕ) (d : A) → set xs r (item_or xs r d) ≡ xs
itself [] r d = refl
itself (y ∷ xs) zero d = refl
itself (y ∷ xs) (suc r) d = ap (λ others. y ∷ others) (itself xs r d)

nothing_yet : (r at : ℕ) (g : Globals) → with_values r at [] g ≡ g
nothing_yet r at g = ap (λ (objects : List Object). record g { objects = objects }) (itself g.objects r no_object)

-- ---- the loop that writes

part_at : {S I : Type 0} (sets : Sets I) (heap : HeapView S I) (path : I) (parts : List (Conditional Slot S I)) (i : ℕ) (part : Conditional Slot S I) → AreParts sets heap path parts → Some part ≡ slice_get parts i → IsPart sets heap path part
part_at sets heap path [] i part h e = cc
part_at {S = S} {I = I} sets heap path (x ∷ parts) zero part h e =
    let P : Conditional Slot S I → Type 0 = IsPart sets heap path in
    subst P (same x part e) h.0
  where
    same : (a b : Conditional Slot S I) → Some b ≡ Some a → a ≡ b
    same a b q = cc
part_at sets heap path (x ∷ parts) (suc i) part h e = part_at sets heap path parts i part h.1 e

there : {A : Type 0} (xs : List A) (i : ℕ) (x : A) → Some x ≡ slice_get xs i → i < length xs
there [] i x e = cc
there (y ∷ xs) zero x e = omega arith
there (y ∷ xs) (suc i) x e = let below = there xs i x e in omega (arith, below)

-- so many values were written
pub record IsWriting {S I : Type 0} (start sets : Sets I) (before now : HeapView S I) (array at : ℕ) (row : Conditionals Slot S I) (i : ℕ) : Type 0 where
  pub extends : Extends start sets
  pub changed : IsChangedIn start sets before now (start.test row.scope) (λ c. with_values (name_at start before.objects c array) at (values_at start before (take i row.conds) c))

pub IsWriting-start : {S I : Type 0} (sets : Sets I) (heap : HeapView S I) (array at : ℕ) (row : Conditionals Slot S I) → IsHeap sets heap → IsWriting sets sets heap heap array at row 0
IsWriting-start sets heap array at row v = record {
  extends = Extends-refl sets;
  changed = record {
    is_heap = v;
    grows = Grows-refl heap;
    keeps = λ p h. h;
    inside = λ c t. sym (nothing_yet (name_at sets heap.objects c array) at (globals_at sets heap c));
    outside = λ c t. refl;
  };
}

module _ {S I : Type 0} {s0 s1 : Sets I} (before now : HeapView S I) (array at : ℕ) (row : Conditionals Slot S I) (i : ℕ) (part : Conditional Slot S I) (v : IsHeap s0 before) (known : s0.is_known row.scope ≡ true) (some : IsSomewhere s0 row.scope) (object : (c : List Bool) → s0.test row.scope c ≡ true → is_held s0 before c (Ref array) ≡ true) (parts : AreParts s0 before row.scope row.conds) (is : Some part ≡ slice_get row.conds i) (h : IsWriting s0 s1 before now array at row i) where
  here : IsPart s0 before row.scope part
  here = part_at s0 before row.scope row.conds i part parts is

  test : (c : List Bool) → s1.test part.scope c ≡ s0.test part.scope c
  test c = h.extends.test part.scope c (cond_known slot_cmp s0 part here.is_cond).0

  inner : (c : List Bool) → s1.test part.scope c ≡ true → s0.test row.scope c ≡ true
  inner c t = here.inside.inside c (sym (test c) ∙ t)

  object_now : (c : List Bool) → s0.test row.scope c ≡ true → (array < length now.objects) × (s1.test (object_in now array).presence c ≡ true)
  object_now c t = reference_held s1 now c array (is_held-grown h.extends before now v h.changed.grows c (Ref array) (object c t))

  pub row-there : array < length now.objects
  row-there = (object_now some.config some.inside).0

  pub row-cond : IsCond slot_cmp s1 part
  row-cond = IsCond-extends slot_cmp h.extends part here.is_cond

  pub row-inside : IsInside s1 part.scope (object_in now array).presence
  row-inside = record { inside = λ c t. (object_now c (inner c t)).1 }

  slot : (c : List Bool) → slot_at s1 part c ≡ slot_at s0 part c
  slot c = ap or_top (cond_at-extends slot_cmp h.extends part here.is_cond c)

  pub row-held : IsValueHeld s1 now part
  row-held = record { held = λ c t. ap (is_held s1 now c) (slot c) ∙ is_held-grown h.extends before now v h.changed.grows c (slot_at s0 part c) (here.held.held c (sym (test c) ∙ t)) }

  abbrev Name : List Bool → ℕ
  Name c = name_at s0 before.objects c array

  abbrev Values : ℕ → List Bool → List (Option Value)
  Values n c = values_at s0 before (take n row.conds) c

  below : i < length row.conds
  below = there row.conds i part is

  more : (c : List Bool) → Values (i + 1) c ≡ Values i c ++ option_map (value_of s0 before c) (cond_at s0 part c) ∷ []
  more c =
      let item : get_or row.conds i part ≡ part = sym (place_of_some row.conds i part is) in
      ap (λ parts. values_at s0 before parts c) (take_more row.conds i part below ∙ ap (λ x. take i row.conds ++ x ∷ []) item)
      ∙ values_more s0 before (take i row.conds) part c

  number : (c : List Bool) → length (Values i c) ≡ i
  number c =
      length-map (conds_at s0 (take i row.conds) c) (option_map (value_of s0 before c))
      ∙ length-map (take i row.conds) (λ x. cond_at s0 x c)
      ∙ length-take-le i row.conds (omega (arith, below))

  all_more : (c : List Bool) (value : Option Value) → option_map (value_of s0 before c) (cond_at s0 part c) ≡ value → with_values (Name c) at (Values (i + 1) c) (globals_at s0 before c) ≡ with_one (Name c) (at + i) value (with_values (Name c) at (Values i c) (globals_at s0 before c))
  all_more c value e =
      ap (λ values. with_values (Name c) at values (globals_at s0 before c)) (more c ∙ ap (λ x. Values i c ++ x ∷ []) e)
      ∙ globals_more (Name c) at (Values i c) value (globals_at s0 before c)
      ∙ ap (λ n. with_one (Name c) (at + n) value (with_values (Name c) at (Values i c) (globals_at s0 before c))) (number c)

  pub IsWriting-step : {s2 : Sets I} (after : HeapView S I) → Extends s1 s2 → IsCellWritten s1 s2 now array (at + i) part after → IsWriting s0 s2 before after array at row (i + 1)
  IsWriting-step {s2 = s2} after e written = record {
    extends = Extends-trans h.extends e;
    changed = record {
      is_heap = written.is_heap;
      grows = Grows-trans before now after h.changed.grows written.grows;
      keeps = λ p k. written.keeps p (h.changed.keeps p k);
      inside = λ c t. inside c t (s1.test part.scope c) refl;
      outside = λ c t. written.outside c (apart c t (s1.test part.scope c) refl) ∙ h.changed.outside c t;
    };
  }
    where
      inside : (c : List Bool) → s0.test row.scope c ≡ true → (b : Bool) → s1.test part.scope c ≡ b → globals_at s2 after c ≡ with_values (Name c) at (Values (i + 1) c) (globals_at s0 before c)
      inside c t true q =
          let name = name_stays h.extends before now v h.changed.grows c array (object c t) in
          let value = ap (value_of s1 now c) (slot c) ∙ value_of-grown h.extends before now v h.changed.grows c (slot_at s0 part c) (here.held.held c (sym (test c) ∙ q)) in
          let globals = h.changed.inside c t in
          written.inside c q
          ∙ (λ j. with_cell_of (name j) (at + i) (value j) (globals j))
          ∙ sym (all_more c (Some (value_of s0 before c (slot_at s0 part c))) (ap (option_map (value_of s0 before c)) (value_there s0 part c here.is_cond (sym (test c) ∙ q))))
      inside c t false q =
          written.outside c q
          ∙ h.changed.inside c t
          ∙ sym (all_more c None (ap (option_map (value_of s0 before c)) (no_value_there s0 part c here.is_cond (sym (test c) ∙ q))))

      apart : (c : List Bool) → s0.test row.scope c ≡ false → (b : Bool) → s1.test part.scope c ≡ b → s1.test part.scope c ≡ false
      apart c t true q = absurd (never (sym (inner c q) ∙ t))
        where
          never : true ≡ false → ⊥
          never k = cc k
      apart c t false q = q

pub IsWriting-end : {S I : Type 0} (s0 s1 : Sets I) (before now : HeapView S I) (array at : ℕ) (row : Conditionals Slot S I) (i : ℕ) → length row.conds ≤ i → IsWriting s0 s1 before now array at row i → IsChangedIn s0 s1 before now (s0.test row.scope) (λ c. with_values (name_at s0 before.objects c array) at (values_at s0 before row.conds c))
IsWriting-end {S = S} {I = I} s0 s1 before now array at row i l h =
    let P : List (Conditional Slot S I) → Type 0 = λ parts. IsChangedIn s0 s1 before now (s0.test row.scope) (λ c. with_values (name_at s0 before.objects c array) at (values_at s0 before parts c)) in
    subst P (take_all i row.conds l) h.changed
