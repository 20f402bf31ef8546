-- The copy from array to array: the cells that are copied are of the type of the cells that they come to.
use Rattle.std.proofs.Common.{Bool, List, None, [], ap, arith, drop, false, get_or, inl, inr, length, negsuc, not, pos, refl, subst, suc, sym, take, true, zero, ℕ, ℤ, ◌++◌, ◌+◌, ◌<◌, ◌∙◌, ◌∷◌, ◌≡◌, ◌≤◌, ◌⊎◌}
use Rattle.std.proofs.lemmas.Bool.{leb-true}
use Rattle.std.proofs.lemmas.Bool.Decides.{Decides-eqb}
use Rattle.std.proofs.lemmas.List.{length-append, length-drop, length-take-le}
use Rattle.std.proofs.lemmas.List.Elements.{All-append, All-cons, All-drop, All-from_get_or, All-get_or, All-head, All-nil, All-tail, All-take, All-weaker}
use Rattle.std.proofs.lemmas.List.Sums.{take_while-cons}
use Rattle.std.specs.Prelude.{All, if◌then◌else◌, slice_set, take_while, ◌&&◌, ◌==◌, ◌||◌}
use Rattle.vx_desc.specs.declared.java_type.Base.TheVariants as base
use Rattle.vx_java.specs.Arrays.{element_bases}
use Rattle.vx_java.specs.Checks.{sort_of_base}
use Rattle.vx_java.specs.Library.{array_copy, cells_with, copy_outcome, fits_component, fitting_values, like_kinds, within_array}
use Rattle.vx_java.specs.Machine.{Here, Int, Null, Object, Ref, Top, Value, go, in_state, object_at, raise, when, with_cells}
use Rattle.vx_kept_facts.proofs.Sites.{throwable}
use Rattle.vx_link.specs.ClassNames.{component_of, element_of, has_reference_components, is_array}
use Rattle.vx_list.specs.Places.{item_or}
use Rattle.vx_sound.proofs.Assigned.{assigned}
use Rattle.vx_sound.proofs.Elements.{IsObjectOf, of_reference}
use Rattle.vx_sound.proofs.Heaps.{IsLaterHeap, changed_later, changed_typed, state_later, still}
use Rattle.vx_sound.proofs.Sites.{AtSite, Typed}
use Rattle.vx_sound.proofs.Values.{class_reference}
use Rattle.vx_sound.specs.Typed.{IsTypedObject, Typings}
use Rattle.vx_sound.specs.Values.{cell_type, type_of_class, type_of_number, type_of_value}
use Rattle.vx_sound_natives.proofs.Cells.{IsNext, goes_next}
use Rattle.vx_sound_natives.proofs.Known.{Known, either_typed, knows}
use Rattle.vx_sound_natives.proofs.Results.{Leads, no_reference, raised_back, ranked}
use Rattle.vx_sound_natives.proofs.StreamNatives.{any_object}
use Rattle.vx_sound_natives.proofs.ValueKinds.{an_int, reference_is}
use Rattle.vx_types.proofs.Tests.{both_first, both_second, either, not_both}
use Rattle.vx_types.specs.Fits.{fits}
use Rattle.vx_types.specs.declared.types.VerType.{VerType}
use Rattle.vx_types.specs.declared.types.VerType.TheVariants as is
use Rattle.vx_value.specs.Arithmetic.{natural}

-- ---- lists

item_is : {A : Type 0} (xs : List A) (i : ℕ) (d : A) → i < length xs → item_or xs i d ≡ get_or xs i d
item_is [] i d less = absurd (omega (arith, less))
item_is (x ∷ xs) zero d less = refl
item_is (x ∷ xs) (suc i) d less = item_is xs i d (omega (arith, less))

few_taken : {A : Type 0} (n : ℕ) (xs : List A) → length (take n xs) ≤ n
few_taken zero xs = omega arith
few_taken (suc n) [] = omega arith
few_taken (suc n) (x ∷ xs) = let less = few_taken n xs in omega (arith, less)

-- those at the front that pass a test
while_passes : {A : Type 0} (P : A → Type 0) (test : A → Bool) (xs : List A) → All P xs → All (λ x. P x × (test x ≡ true)) (take_while test xs)
while_passes P test [] all = All-nil (λ x. P x × (test x ≡ true))
while_passes {A} P test (x ∷ xs) all =
    subst (λ (ys : List A). All (λ x. P x × (test x ≡ true)) ys) (sym (take_while-cons test x xs))
    (by (test x) refl (while_passes P test xs (All-tail P x xs all)))
  where
    by : (b : Bool) → test x ≡ b → All (λ x. P x × (test x ≡ true)) (take_while test xs) → All (λ x. P x × (test x ≡ true)) (if b then x ∷ take_while test xs else [])
    by true passes others = All-cons (λ x. P x × (test x ≡ true)) x (take_while test xs) (All-head P x xs all, passes) others
    by false fails others = All-nil (λ x. P x × (test x ≡ true))

while_length : {A : Type 0} (test : A → Bool) (xs : List A) → length (take_while test xs) ≤ length xs
while_length test [] = omega arith
while_length {A} test (x ∷ xs) = subst (λ (ys : List A). length ys ≤ length (x ∷ xs)) (sym (take_while-cons test x xs)) (by (test x) (while_length test xs))
  where
    by : (b : Bool) → length (take_while test xs) ≤ length xs → length (if b then x ∷ take_while test xs else []) ≤ length (x ∷ xs)
    by true few = omega (arith, few)
    by false few = omega arith

with_length : (cells : List Value) (at : ℕ) (values : List Value) → at + length values ≤ length cells → length (cells_with cells at values) ≡ length cells
with_length cells at values within =
    let whole = length-append (take at cells) (values ++ drop (at + length values) cells) in
    let back = length-append values (drop (at + length values) cells) in
    let front = length-take-le at cells (omega (arith, within)) in
    let end = length-drop (at + length values) cells in
    omega (arith, whole, back, front, end, within)

module _ (typings : Typings) (h : Here) (site : AtSite typings h) (rest : List Value) where
  abbrev heap : List Object
  heap = h.state.heap

  -- a value is of the type of an array's cells
  abbrev Fine : ℕ → Value → Type 0
  Fine c v = fits h.program (type_of_value h.program heap v) (cell_type h.program c) ≡ true

  -- ---- values that fit

  reference_cells : (c : ℕ) → has_reference_components h.program c ≡ true → cell_type h.program c ≡ type_of_class h.program (component_of h.program c)
  reference_cells c has =
      ap (λ b. if b then type_of_class h.program (component_of h.program c) else type_of_number (sort_of_base (item_or element_bases (element_of h.program c) base.Int))) has

  component_fits : (c d : ℕ) (v : Value) → has_reference_components h.program c ≡ true → has_reference_components h.program d ≡ true → Fine c v × (fits_component h (component_of h.program d) v ≡ true) → Fine d v
  component_fits c d v one other q =
      subst (λ (t : VerType). fits h.program (type_of_value h.program heap v) t ≡ true) (sym (reference_cells d other))
      (by (of_reference h.program heap (type_of_class h.program (component_of h.program c)) v (class_reference h.program (component_of h.program c))
      (subst (λ (t : VerType). fits h.program (type_of_value h.program heap v) t ≡ true) (reference_cells c one) q.0)) q.1)
    where
      target : ℕ
      target = component_of h.program d

      null_fits : fits h.program is.Null (type_of_class h.program target) ≡ true
      null_fits = let r = class_reference h.program target in subst (λ (t : VerType). fits h.program is.Null t ≡ true) (sym r.is) refl

      object_fits : (r : ℕ) → r < length heap → fits_component h target (Ref r) ≡ true → fits h.program (type_of_value h.program heap (Ref r)) (type_of_class h.program target) ≡ true
      object_fits r there passes =
          subst (λ (t : VerType). fits h.program t (type_of_class h.program target) ≡ true) (sym (reference_is h.program heap r there))
          (assigned h.program site.sound.hierarchy site.sound.core (object_at h.state r).class target passes)

      by : (v ≡ Null) ⊎ IsObjectOf h.program heap (type_of_class h.program (component_of h.program c)) v → fits_component h target v ≡ true
          → fits h.program (type_of_value h.program heap v) (type_of_class h.program target) ≡ true
      by (inl null) passes = subst (λ (w : Value). fits h.program (type_of_value h.program heap w) (type_of_class h.program target) ≡ true) (sym null) null_fits
      by (inr o) passes =
          subst (λ (w : Value). fits h.program (type_of_value h.program heap w) (type_of_class h.program target) ≡ true) (sym o.is)
          (object_fits o.object o.there (subst (λ (w : Value). fits_component h target w ≡ true) o.is passes))

  -- both arrays are of references, or of one class
  abbrev Alike : ℕ → ℕ → Type 0
  Alike c d = (c ≡ d) ⊎ ((has_reference_components h.program c ≡ true) × (has_reference_components h.program d ≡ true))

  fitting_typed : (from to : Object) → Alike from.class to.class → (values : List Value) → All (Fine from.class) values → All (Fine to.class) (fitting_values h from to values)
  fitting_typed from to alike values all = by (has_reference_components h.program to.class) refl alike
    where
      test : Value → Bool
      test = fits_component h (component_of h.program to.class)

      by : (b : Bool) → has_reference_components h.program to.class ≡ b → Alike from.class to.class → All (Fine to.class) (if b then take_while test values else values)
      by true has (inl same) =
          All-weaker (λ v. Fine from.class v × (test v ≡ true)) (Fine to.class)
          (λ v q. component_fits from.class to.class v (subst (λ c. has_reference_components h.program c ≡ true) (sym same) has) has q) (take_while test values) (while_passes (Fine from.class) test values all)
      by true has (inr both) =
          All-weaker (λ v. Fine from.class v × (test v ≡ true)) (Fine to.class) (λ v q. component_fits from.class to.class v both.0 has q) (take_while test values)
          (while_passes (Fine from.class) test values all)
      by false none (inl same) = subst (λ c. All (Fine c) values) same all
      by false none (inr both) = not_both (has_reference_components h.program to.class) both.1 none

  fitting_length : (from to : Object) (values : List Value) → length (fitting_values h from to values) ≤ length values
  fitting_length from to values = by (has_reference_components h.program to.class)
    where
      by : (b : Bool) → length (if b then take_while (fits_component h (component_of h.program to.class)) values else values) ≤ length values
      by true = while_length (fits_component h (component_of h.program to.class)) values
      by false = omega arith

  -- ---- an array with other cells

  all_cells : (o : Object) → IsTypedObject h.program heap o → is_array h.program o.class ≡ true → All (Fine o.class) o.cells
  all_cells o typed array = All-from_get_or (Fine o.class) o.cells Top (λ i less. subst (λ (v : Value). Fine o.class v) (item_is o.cells i Top less) (typed.cells array i less))

  recelled : (r : ℕ) → r < length heap → is_array h.program (object_at h.state r).class ≡ true → (cells : List Value) → length cells ≡ length (object_at h.state r).cells
      → All (Fine (object_at h.state r).class) cells → IsNext h.program site.sound heap (slice_set heap r (record (object_at h.state r) { cells = cells }))
  recelled r there array cells same all = record {
    grows = later;
    typed = changed_typed h.program (ranked typings h site rest) heap r o refl site.state.heap (record {
      size = λ a. (site.state.heap.objects r there).size array ∙ sym same;
      cells = λ a i less.
          still h.program (ranked typings h site rest) heap (slice_set heap r o) later (item_or cells i Top) (cell_type h.program o.class)
          (subst (λ (v : Value). Fine o.class v) (sym (item_is cells i Top less)) (All-get_or (Fine o.class) cells i Top less all));
      fields = λ plain f less has. not_both (is_array h.program o.class) array plain;
    });
  }
    where
      o : Object
      o = record (object_at h.state r) { cells = cells }

      later : IsLaterHeap heap (slice_set heap r o)
      later = changed_later heap r o refl

  -- ---- the copy

  copied : Leads typings h rest None → (to at : ℕ) → to < length heap → is_array h.program (object_at h.state to).class ≡ true → (values fit : List Value) → at + length fit ≤ length (object_at h.state to).cells
      → All (Fine (object_at h.state to).class) fit → Typed typings h (copy_outcome h rest to at values fit)
  copied on to at there array values fit within all =
      either_typed typings h (length fit == length values) (go g rest) (raise g "java/lang/ArrayStoreException") (goes_next typings h site rest on _ next) (
        throwable h.program site.sound.runnable "java/lang/ArrayStoreException" refl,
        state_later h.program (ranked typings h site rest) typings h.state _ next.grows next.typed site.state,
      )
    where
      target : Object
      target = object_at h.state to

      cells : List Value
      cells = cells_with target.cells at fit

      g : Here
      g = in_state h (with_cells h.state to cells)

      every : All (Fine target.class) target.cells
      every = all_cells target (site.state.heap.objects to there) array

      next : IsNext h.program site.sound heap (slice_set heap to (record (object_at h.state to) { cells = cells }))
      next =
          recelled to there array cells (with_length target.cells at fit within)
          (All-append (Fine target.class) (take at target.cells) (fit ++ drop (at + length fit) target.cells) (All-take (Fine target.class) at target.cells every)
          (All-append (Fine target.class) fit (drop (at + length fit) target.cells) all (All-drop (Fine target.class) (at + length fit) target.cells every)))

  -- what is copied lies within the array to which it is copied
  lies_within : (j count : ℤ) (size : ℕ) → within_array j count size ≡ true → natural j + natural count ≤ size
  lies_within (pos at) (pos count) size w = leb-true (at + count) size w
  lies_within (negsuc at) count size w = absurd cc
  lies_within (pos at) (negsuc count) size w = absurd cc

  alike : (from to : Object) → like_kinds h from to ≡ true → (is_array h.program from.class ≡ true) × (is_array h.program to.class ≡ true) × Alike from.class to.class
  alike from to like =
      let others = both_second (is_array h.program from.class) (is_array h.program to.class && ((from.class == to.class) || (has_reference_components h.program from.class && has_reference_components h.program to.class))) like in
      let last = both_second (is_array h.program to.class) ((from.class == to.class) || (has_reference_components h.program from.class && has_reference_components h.program to.class)) others in (
        both_first (is_array h.program from.class) (is_array h.program to.class && ((from.class == to.class) || (has_reference_components h.program from.class && has_reference_components h.program to.class))) like,
        both_first (is_array h.program to.class) ((from.class == to.class) || (has_reference_components h.program from.class && has_reference_components h.program to.class)) others,
        elim (either (from.class == to.class) (has_reference_components h.program from.class && has_reference_components h.program to.class) last) [
          | inl same ↦ inl ((Decides-eqb from.class to.class).0 same)
          | inr both ↦ inr (
            both_first (has_reference_components h.program from.class) (has_reference_components h.program to.class) both,
            both_second (has_reference_components h.program from.class) (has_reference_components h.program to.class) both,
          )
        ],
      )

  pub copy_back : Leads typings h rest None → (from : ℕ) → from < length heap → (i : ℤ) (to : ℕ) → to < length heap → (j count : ℤ) → Typed typings h (array_copy h (Ref from ∷ Int i ∷ Ref to ∷ Int j ∷ Int count ∷ []) rest)
  copy_back on from there i to other j count = by_kind (like_kinds h source target) refl
    where
      source : Object
      source = object_at h.state from

      target : Object
      target = object_at h.state to

      values : List Value
      values = take (natural count) (drop (natural i) source.cells)

      fit : List Value
      fit = fitting_values h source target values

      goes_on : like_kinds h source target ≡ true → within_array j count target.size ≡ true → Typed typings h (copy_outcome h rest to (natural j) values fit)
      goes_on like within =
          let kinds = alike source target like in
          let size = (site.state.heap.objects to other).size kinds.1 in
          let bounds = lies_within j count target.size within in
          let few = few_taken (natural count) (drop (natural i) source.cells) in
          let fewer = fitting_length source target values in
          copied on to (natural j) other kinds.1 values fit (omega (arith, size, bounds, few, fewer))
          (fitting_typed source target kinds.2 values
          (All-take (Fine source.class) (natural count) (drop (natural i) source.cells)
          (All-drop (Fine source.class) (natural i) source.cells (all_cells source (site.state.heap.objects from there) kinds.0))))

      by_place : like_kinds h source target ≡ true → (b : Bool) → (within_array i count source.size && within_array j count target.size) ≡ b
          → Typed typings h (when b (copy_outcome h rest to (natural j) values fit) (raise h "java/lang/ArrayIndexOutOfBoundsException"))
      by_place like true w = goes_on like (both_second (within_array i count source.size) (within_array j count target.size) w)
      by_place like false w = raised_back typings h site rest "java/lang/ArrayIndexOutOfBoundsException" refl

      by_kind : (b : Bool) → like_kinds h source target ≡ b
          → Typed typings h (when (not b) (raise h "java/lang/ArrayStoreException")
          (when (within_array i count source.size && within_array j count target.size) (copy_outcome h rest to (natural j) values fit) (raise h "java/lang/ArrayIndexOutOfBoundsException")))
      by_kind true like = by_place like (within_array i count source.size && within_array j count target.size) refl
      by_kind false like = raised_back typings h site rest "java/lang/ArrayStoreException" refl

-- ---- the table

unfoldable pub copy_natives : List Known
copy_natives =
    knows array_copy None (any_object ∷ an_int ∷ any_object ∷ an_int ∷ an_int ∷ []) None (λ typings h site rest on. (
      λ i. (λ j count. no_reference typings h site rest, λ to other j count. no_reference typings h site rest),
      λ from there i. (λ j count. no_reference typings h site rest, λ to other j count. copy_back typings h site rest on from there.there i to other.there j count),
    ))
    ∷ []
