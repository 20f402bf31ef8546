-- An array and its parts in the configurations of a condition, one part after the other.
use Rattle.std.proofs.Common.{◌≡◌, ℕ, ℤ, pos, negsuc, zero, suc, ◌+◌, ◌-◌, ◌<◌, ◌≤◌, Bool, true, List, [], ◌∷◌, refl, sym, ◌∙◌, ap, arith, drop, get_or, length, map, subst, take}
use Rattle.std.proofs.lemmas.List.{take_all}
use Rattle.std.specs.List.{list_all}
use Rattle.std.specs.Prelude.{unsigned_abs}
use Rattle.vx_group_states.proofs.StateLaws.{both_first, both_second}
use Rattle.vx_families.proofs.ChangeLaws.{changed_as}
use Rattle.vx_families.proofs.NameLaws.{name_stays, new_name_is_next}
use Rattle.vx_heap.specs.Changing.{IsChangedIn, IsMade, with_cell_of}
use Rattle.vx_heap.specs.Heap.{Globals, HeapView, IsHeap, globals_at, is_held, name_at}
use Rattle.vx_heap.proofs.Growing.{Grows-trans, is_held-grown}
use Rattle.vx_java.specs.Arrays.{array_of}
use Rattle.vx_java.specs.Machine.{Ref as RefValue}
use Rattle.vx_link.specs.ClassNames.{component_of}
use Rattle.vx_link.specs.declared.program.Program.{Program}
use Rattle.vx_space.specs.Sets.{Sets, Extends}
use Rattle.vx_space.proofs.Spaces.{Extends-refl, Extends-trans}
use Rattle.vx_value.specs.Arithmetic.{natural}
use Rattle.vx_value.specs.declared.slot.Slot.TheVariants.{Ref}
use Rattle.vx_arrays.specs.Making.{IsGridMade, is_length, with_grid}
use Rattle.vx_arrays.proofs.GridLists.{some_all, some_more, with_some}

-- ---- lengths

-- the absolute value of a length of an array is the number
pub abs_natural : (n : ℤ) → is_length n ≡ true → unsigned_abs n ≡ natural n
abs_natural (pos n) h = refl
abs_natural (negsuc n) h = cc h

-- a list with a first item
pub first_rest : (xs : List ℤ) (d : ℤ) → 1 ≤ length xs → get_or xs 0 d ∷ take (length xs - 1) (drop 1 xs) ≡ xs
first_rest [] d l = absurd (omega (arith, l))
first_rest (x ∷ xs) d l =
    let same : length (x ∷ xs) - 1 ≡ length xs = omega arith in
    ap (λ n. x ∷ take n xs) same ∙ ap (λ ys. x ∷ ys) (take_all (length xs) xs (omega arith))

pub rest_shorter : (xs : List ℤ) → 1 ≤ length xs → length (take (length xs - 1) (drop 1 xs)) < length xs
rest_shorter xs l =
    let all = ap length (first_rest xs (pos 0) l) in
    omega (arith, all)

pub rest_fits : (xs : List ℤ) (d : ℤ) → 1 ≤ length xs → list_all is_length xs ≡ true → (is_length (get_or xs 0 d) ≡ true) × (list_all is_length (take (length xs - 1) (drop 1 xs)) ≡ true)
rest_fits xs d l h =
    let both = ap (list_all is_length) (first_rest xs d l) ∙ h in
    (both_first (is_length (get_or xs 0 d)) (list_all is_length (take (length xs - 1) (drop 1 xs))) both, both_second (is_length (get_or xs 0 d)) (list_all is_length (take (length xs - 1) (drop 1 xs))) both)

-- ---- the parts

-- an array alone
pub IsGridMade-one : {S I : Type 0} (p : Program) (class size : ℕ) (sets : Sets I) (before after : HeapView S I) (condition : I) (array : ℕ) → IsHeap sets before → IsMade sets before condition (array_of p class size) after array → IsGridMade p class (size ∷ []) sets sets before after (sets.test condition) array
IsGridMade-one p class size sets before after condition array v h = record {
  changed = h.changed;
  name = λ c t. ap (name_at sets after.objects c) h.reference_is ∙ new_name_is_next sets sets before after (Extends-refl sets) v h.changed.grows c;
  held = h.held;
}

pub IsGridMade-last : {S I : Type 0} (p : Program) (class : ℕ) (size : ℤ) (deeper : List ℤ) (sets : Sets I) (before after : HeapView S I) (condition : I) (array : ℕ) → length deeper < 1 → IsHeap sets before → IsMade sets before condition (array_of p class (natural size)) after array → IsGridMade p class (map natural (size ∷ deeper)) sets sets before after (sets.test condition) array
IsGridMade-last p class size [] sets before after condition array l v h = IsGridMade-one p class (natural size) sets before after condition array v h
IsGridMade-last p class size (x ∷ xs) sets before after condition array l v h = absurd (omega (arith, l))

-- so many parts were made and put into it
pub record IsMakingParts {S I : Type 0} (p : Program) (class size next : ℕ) (others : List ℕ) (start sets : Sets I) (before now : HeapView S I) (condition : I) (array i : ℕ) : Type 0 where
  pub extends : Extends start sets
  pub left : ℕ
  pub all : i + left ≡ size
  pub changed : IsChangedIn start sets before now (start.test condition) (λ _. with_some p class size next others left i)
  pub name : (c : List Bool) → start.test condition c ≡ true → name_at sets now.objects c array ≡ length (globals_at start before c).objects
  pub held : (c : List Bool) → start.test condition c ≡ true → is_held sets now c (Ref array) ≡ true

pub IsMakingParts-start : {S I : Type 0} (p : Program) (class size next : ℕ) (others : List ℕ) (sets : Sets I) (before after : HeapView S I) (condition : I) (array : ℕ) → IsHeap sets before → IsMade sets before condition (array_of p class size) after array → IsMakingParts p class size next others sets sets before after condition array 0
IsMakingParts-start p class size next others sets before after condition array v h =
    let one = IsGridMade-one p class size sets before after condition array v h in
    record {
      extends = Extends-refl sets;
      left = size;
      all = omega arith;
      changed = h.changed;
      name = one.name;
      held = one.held;
    }

module _ {S I : Type 0} (p : Program) (class size next : ℕ) (others : List ℕ) {s0 s1 s2 : Sets I} (before now middle : HeapView S I) (condition : I) (array part i : ℕ) (k : s0.is_known condition ≡ true) (h : IsMakingParts p class size next others s0 s1 before now condition array i) (e : Extends s1 s2) (grid : IsGridMade p (component_of p class) (next ∷ others) s1 s2 now middle (s1.test condition) part) where
  test_now : (c : List Bool) → s1.test condition c ≡ s0.test condition c
  test_now c = h.extends.test condition c k

  test_then : (c : List Bool) → s2.test condition c ≡ s0.test condition c
  test_then c = (Extends-trans h.extends e).test condition c k

  -- both are there
  pub IsMakingParts-array : (c : List Bool) → s2.test condition c ≡ true → is_held s2 middle c (Ref array) ≡ true
  IsMakingParts-array c t = is_held-grown e now middle h.changed.is_heap grid.changed.grows c (Ref array) (h.held c (sym (test_then c) ∙ t))

  pub IsMakingParts-part : (c : List Bool) → s2.test condition c ≡ true → is_held s2 middle c (Ref part) ≡ true
  IsMakingParts-part c t = grid.held c (test_now c ∙ sym (test_then c) ∙ t)

  -- one more
  pub IsMakingParts-step : {s3 : Sets I} (after : HeapView S I) → i < size → Extends s2 s3 → IsChangedIn s2 s3 middle after (s2.test condition) (λ c. with_cell_of (name_at s2 middle.objects c array) i (RefValue (name_at s2 middle.objects c part))) → IsMakingParts p class size next others s0 s3 before after condition array (i + 1)
  IsMakingParts-step {s3 = s3} after l f put = from h.left h.all refl
    where
      from : (left : ℕ) → i + left ≡ size → h.left ≡ left → IsMakingParts p class size next others s0 s3 before after condition array (i + 1)
      from zero a q = absurd (omega (arith, l, a))
      from (suc left) a q = record {
        extends = Extends-trans (Extends-trans h.extends e) f;
        left = left;
        all = omega (arith, a);
        changed = record {
          is_heap = put.is_heap;
          grows = Grows-trans before middle after (Grows-trans before now middle h.changed.grows grid.changed.grows) put.grows;
          keeps = λ r w. put.keeps r (grid.changed.keeps r (h.changed.keeps r w));
          inside = λ c t.
              let there : s1.test condition c ≡ true = test_now c ∙ t in
              let stood : globals_at s1 now c ≡ with_some p class size next others (suc left) i (globals_at s0 before c) = h.changed.inside c t ∙ ap (λ n. with_some p class size next others n i (globals_at s0 before c)) q in
              let array_name = name_stays e now middle h.changed.is_heap grid.changed.grows c array (h.held c t) ∙ h.name c t in
              let part_name = grid.name c there ∙ ap (λ (g : Globals). length g.objects) stood in
              let made = grid.changed.inside c there ∙ ap (with_grid p (component_of p class) (next ∷ others)) stood in
              put.inside c (test_then c ∙ t)
              ∙ (λ j. with_cell_of (array_name j) i (RefValue (part_name j)) (made j))
              ∙ some_more p class size next others left i (globals_at s0 before c)
              ∙ ap (λ n. with_some p class size next others left n (globals_at s0 before c)) number;
          outside = λ c t. put.outside c (test_then c ∙ t) ∙ grid.changed.outside c (test_now c ∙ t) ∙ h.changed.outside c t;
        };
        name = λ c t.
            name_stays f middle after grid.changed.is_heap put.grows c array (IsMakingParts-array c (test_then c ∙ t))
            ∙ name_stays e now middle h.changed.is_heap grid.changed.grows c array (h.held c t)
            ∙ h.name c t;
        held = λ c t. is_held-grown f middle after grid.changed.is_heap put.grows c (Ref array) (IsMakingParts-array c (test_then c ∙ t));
      }
        where
          number : suc i ≡ i + 1
          number = omega arith

-- after the last one
pub IsMakingParts-end : {S I : Type 0} (p : Program) (class size next : ℕ) (others : List ℕ) (s0 s1 : Sets I) (before now : HeapView S I) (condition : I) (array i : ℕ) → i ≡ size → IsMakingParts p class size next others s0 s1 before now condition array i → IsGridMade p class (size ∷ next ∷ others) s0 s1 before now (s0.test condition) array
IsMakingParts-end p class size next others s0 s1 before now condition array i l h = record {
  changed = changed_as s0 s1 before now (s0.test condition) (λ _. with_some p class size next others h.left i) (λ _. with_grid p class (size ∷ next ∷ others)) (λ c t.
      (λ j. with_some p class size next others (none j) (l j) (globals_at s0 before c))
      ∙ some_all p class size next others (globals_at s0 before c)) h.changed;
  name = h.name;
  held = h.held;
}
  where
    none : h.left ≡ 0
    none =
        let all = h.all in
        omega (arith, all, l)

pub IsMakingParts-all : {S I : Type 0} (p : Program) (class : ℕ) (size next : ℤ) (others deeper : List ℤ) (s0 s1 : Sets I) (before now : HeapView S I) (condition : I) (array i : ℕ) → next ∷ others ≡ deeper → i ≡ natural size → IsMakingParts p class (natural size) (natural next) (map natural others) s0 s1 before now condition array i → IsGridMade p class (map natural (size ∷ deeper)) s0 s1 before now (s0.test condition) array
IsMakingParts-all p class size next others deeper s0 s1 before now condition array i e l h =
    let P : List ℤ → Type 0 = λ xs. IsGridMade p class (map natural (size ∷ xs)) s0 s1 before now (s0.test condition) array in
    subst P e (IsMakingParts-end p class (natural size) (natural next) (map natural others) s0 s1 before now condition array i l h)
