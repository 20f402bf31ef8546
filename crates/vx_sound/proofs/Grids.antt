-- Arrays with their parts: each of them is typed where all stand in a heap one behind the other.
use Rattle.std.proofs.Common.{List, [], ap, arith, inl, inr, length, refl, subst, suc, sym, true, zero, ℕ, ◌*◌, ◌++◌, ◌+◌, ◌-◌, ◌<◌, ◌∙◌, ◌∷◌, ◌≡◌, ◌≤◌, ◌⊎◌}
use Rattle.std.proofs.lemmas.Bool.{cases_lt, lt-ltb}
use Rattle.std.proofs.lemmas.List.{length-append}
use Rattle.std.specs.Prelude.{if◌then◌else◌, nat_le, nat_lt, ◌||◌}
use Rattle.vx_desc.specs.declared.java_type.Base.TheVariants as base
use Rattle.vx_java.specs.Arrays.{element_bases, grid, grid_objects, parts_of, references_to}
use Rattle.vx_java.specs.Checks.{sort_of_base}
use Rattle.vx_java.specs.Machine.{Object, Top, no_object}
use Rattle.vx_link.specs.ClassNames.{array_class, component_of, dimensions_of, element_of, is_array}
use Rattle.vx_link.specs.Parts.{class_count}
use Rattle.vx_link.specs.declared.program.Program.{Program}
use Rattle.vx_list.specs.Places.{item_or}
use Rattle.vx_sound.proofs.ClassNumbers.{array_is, array_there, dimensions_there, element_below}
use Rattle.vx_sound.proofs.GridNames.{IsArrayOf}
use Rattle.vx_sound.proofs.Heaps.{item_back, item_front}
use Rattle.vx_sound.proofs.NewArrays.{array_typed}
use Rattle.vx_sound.specs.Typed.{IsTypedObject}
use Rattle.vx_sound.specs.Values.{cell_type, type_of_class, type_of_number, type_of_reference, type_of_value}
use Rattle.vx_types.proofs.FitLaws.{fits_itself}
use Rattle.vx_types.proofs.Tests.{both, not_both, or_first}
use Rattle.vx_types.specs.Fits.{fits}
use Rattle.vx_types.specs.Ranked.{IsRanked}
use Rattle.vx_types.specs.declared.types.VerType.{VerType}
use Rattle.vx_types.specs.declared.types.VerType.TheVariants as is

-- ---- components

place_of_component : (n k e : ℕ) → 1 < k → n + (k - 1) * (n + 8) + e - (n + 8) ≡ n + (k - 1 - 1) * (n + 8) + e
place_of_component n k e many =
    let one : k - 1 ≡ (k - 1 - 1) + 1 = omega (arith, many) in
    let next : (k - 1 - 1 + 1) * (n + 8) ≡ (k - 1 - 1) * (n + 8) + (n + 8) = omega arith in
    ap (λ q. n + q * (n + 8) + e - (n + 8)) one ∙ omega (arith, next)

-- the component of an array of several dimensions has one less
pub component_array : (p : Program) (c d : ℕ) → IsArrayOf p c (suc (suc d)) → IsArrayOf p (component_of p c) (suc d)
component_array p c d q =
    let dims = q.dimensions in
    let many : 1 < dimensions_of p c = omega (arith, dims) in
    let part : component_of p c ≡ c - (class_count p + 8) = ap (λ b. if b then c - (class_count p + 8) else element_of p c - 8) (lt-ltb 1 (dimensions_of p c) many) in
    let place : c - (class_count p + 8) ≡ array_class p (dimensions_of p c - 1) (element_of p c) =
    ap (λ k. k - (class_count p + 8)) (array_is p c q.array) ∙ place_of_component (class_count p) (dimensions_of p c) (element_of p c) many in
    let one : dimensions_of p c - 1 ≡ suc d = omega (arith, dims) in
    let below = element_below p c q.array in
    subst (λ k. IsArrayOf p k (suc d)) (sym (part ∙ place ∙ ap (λ k. array_class p k (element_of p c)) one))
    (record { array = array_there p (suc d) (element_of p c) (omega arith) below; dimensions = dimensions_there p (suc d) (element_of p c) (omega arith) below })

-- its cells are of the type of its component
pub component_cells : (p : Program) (c d : ℕ) → IsArrayOf p c (suc (suc d)) → cell_type p c ≡ type_of_class p (component_of p c)
component_cells p c d q =
    let dims = q.dimensions in
    ap (λ b. if b then type_of_class p (component_of p c) else type_of_number (sort_of_base (item_or element_bases (element_of p c) base.Int)))
    (both (is_array p c) (nat_lt 1 (dimensions_of p c) || nat_le 8 (element_of p c)) q.array
    (or_first (nat_lt 1 (dimensions_of p c)) (nat_le 8 (element_of p c)) (lt-ltb 1 (dimensions_of p c) (omega (arith, dims)))))

-- ---- how many there are

parts_length : (part : ℕ → List Object) (each : ℕ) → ((from : ℕ) → length (part from) ≡ each) → (count from : ℕ) → length (parts_of part count each from) ≡ count * each
parts_length part each is zero from = omega arith
parts_length part each is (suc count) from =
    let all = length-append (part from) (parts_of part count each (from + each)) in
    let one = is from in
    let others = parts_length part each is count (from + each) in
    omega (arith, all, one, others)

pub grid_length : (p : Program) (lengths : List ℕ) (class from : ℕ) → length (grid p class lengths from) ≡ grid_objects lengths
grid_length p [] class from = refl
grid_length p (n ∷ []) class from = let none : n * 0 ≡ 0 = omega arith in omega (arith, none)
grid_length p (n ∷ m ∷ lengths) class from =
    let parts = parts_length (grid p (component_of p class) (m ∷ lengths)) (grid_objects (m ∷ lengths)) (grid_length p (m ∷ lengths) (component_of p class)) n (from + 1) in
    omega (arith, parts)

pub some_objects : (n : ℕ) (lengths : List ℕ) → 1 ≤ grid_objects (n ∷ lengths)
some_objects n lengths = omega arith

references_length : (count each from : ℕ) → length (references_to count each from) ≡ count
references_length zero each from = refl
references_length (suc count) each from = ap suc (references_length count each (from + each))

-- the first of them is of the class
pub grid_class : (p : Program) (class n : ℕ) (lengths : List ℕ) (from : ℕ) → (item_or (grid p class (n ∷ lengths) from) 0 no_object).class ≡ class
grid_class p class n [] from = refl
grid_class p class n (m ∷ lengths) from = refl

-- ---- where they stand

-- objects stand in a heap one behind the other
abbrev pub Stands : List Object → (from : ℕ) → List Object → Type 0
Stands heap from objects = (k : ℕ) → k < length objects → (from + k < length heap) × (item_or heap (from + k) no_object ≡ item_or objects k no_object)

stands_front : (heap : List Object) (from : ℕ) (xs ys : List Object) → Stands heap from (xs ++ ys) → Stands heap from xs
stands_front heap from xs ys stands k less =
    let size = length-append xs ys in
    let q = stands k (omega (arith, size, less)) in
    (q.0, q.1 ∙ item_front xs ys k no_object less)

stands_back : (heap : List Object) (from from' : ℕ) (xs ys : List Object) → from' ≡ from + length xs → Stands heap from (xs ++ ys) → Stands heap from' ys
stands_back heap from from' xs ys behind stands k less =
    let size = length-append xs ys in
    let q = stands (length xs + k) (omega (arith, size, less)) in
    let place : from + (length xs + k) ≡ from' + k = omega (arith, behind) in
    let within = q.0 in (
      omega (arith, within, place),
      ap (λ n. item_or heap n no_object) (sym place) ∙ q.1 ∙ item_back xs ys (length xs + k) k no_object refl,
    )

-- behind a heap
pub stands_appended : (heap objects : List Object) → Stands (heap ++ objects) (length heap) objects
stands_appended heap objects k less =
    let size = length-append heap objects in
    (omega (arith, size, less), item_back heap objects (length heap + k) k no_object refl)

-- ---- each of them is typed

module _ (p : Program) (ranked : IsRanked p) (heap : List Object) where
  abbrev AllTyped : List Object → Type 0
  AllTyped objects = (k : ℕ) → k < length objects → IsTypedObject p heap (item_or objects k no_object)

  -- a reference to an object of a class
  reference_typed : (r c : ℕ) → r < length heap → (item_or heap r no_object).class ≡ c → type_of_reference p heap r ≡ type_of_class p c
  reference_typed r c less class =
      ap (λ b. if b then type_of_class p (item_or heap r no_object).class else is.Top) (lt-ltb r (length heap) less) ∙ ap (type_of_class p) class

  references_typed : (part : ℕ → List Object) (each class : ℕ) → 1 ≤ each → ((from : ℕ) → length (part from) ≡ each) → ((from : ℕ) → (item_or (part from) 0 no_object).class ≡ class)
      → (count from : ℕ) → Stands heap from (parts_of part count each from) → (i : ℕ) → i < count
      → type_of_value p heap (item_or (references_to count each from) i Top) ≡ type_of_class p class
  references_typed part each class some size first zero from stands i less = absurd (omega (arith, less))
  references_typed part each class some size first (suc count) from stands zero less =
      let many = size from in
      let q = stands_front heap from (part from) (parts_of part count each (from + each)) stands 0 (omega (arith, some, many)) in
      let within = q.0 in
      let place : from + 0 ≡ from = omega arith in
      reference_typed from class (omega (arith, within)) (ap (λ k. (item_or heap k no_object).class) (sym place) ∙ ap (λ (o : Object). o.class) q.1 ∙ first from)
  references_typed part each class some size first (suc count) from stands (suc i) less =
      let many = size from in
      references_typed part each class some size first count (from + each)
      (stands_back heap from (from + each) (part from) (parts_of part count each (from + each)) (omega (arith, many)) stands) i (omega (arith, less))

  both_typed : (xs ys : List Object) (k : ℕ) → k < length (xs ++ ys) → AllTyped xs → AllTyped ys → IsTypedObject p heap (item_or (xs ++ ys) k no_object)
  both_typed xs ys k less front back = by (cases_lt k (length xs))
    where
      by : (k < length xs) ⊎ (length xs ≤ k) → IsTypedObject p heap (item_or (xs ++ ys) k no_object)
      by (inl here) = subst (λ (o : Object). IsTypedObject p heap o) (sym (item_front xs ys k no_object here)) (front k here)
      by (inr past) =
          let all = length-append xs ys in
          let j : ℕ = k - length xs in
          let place : k ≡ length xs + j = omega (arith, past) in
          subst (λ (o : Object). IsTypedObject p heap o) (sym (item_back xs ys k j no_object place)) (back j (omega (arith, less, all, place)))

  parts_typed : (part : ℕ → List Object) (each : ℕ) → ((from : ℕ) → length (part from) ≡ each) → ((from : ℕ) → Stands heap from (part from) → AllTyped (part from))
      → (count from : ℕ) → Stands heap from (parts_of part count each from) → AllTyped (parts_of part count each from)
  parts_typed part each size inner zero from stands k less = absurd (omega (arith, less))
  parts_typed part each size inner (suc count) from stands k less =
      let many = size from in
      both_typed (part from) others k less (inner from (stands_front heap from (part from) others stands))
      (parts_typed part each size inner count (from + each) (stands_back heap from (from + each) (part from) others (omega (arith, many)) stands))
    where
      others : List Object
      others = parts_of part count each (from + each)

  -- an array whose cells are its parts
  outer_typed : (c d n each from : ℕ) → IsArrayOf p c (suc (suc d)) → ((i : ℕ) → i < n → type_of_value p heap (item_or (references_to n each from) i Top) ≡ type_of_class p (component_of p c))
      → IsTypedObject p heap (record { class = c; size = n; cells = references_to n each from })
  outer_typed c d n each from q parts = record {
    size = λ array. sym (references_length n each from);
    cells = λ array i less. let size = references_length n each from in
        subst (λ (t : VerType). fits p (type_of_value p heap (item_or (references_to n each from) i Top)) t ≡ true) (sym (component_cells p c d q))
        (subst (λ (t : VerType). fits p t (type_of_class p (component_of p c)) ≡ true) (sym (parts i (omega (arith, less, size)))) (fits_itself p ranked (type_of_class p (component_of p c))));
    fields = λ plain f less has. not_both (is_array p c) q.array plain;
  }

  pub grid_typed : (n : ℕ) (lengths : List ℕ) (c d from : ℕ) → IsArrayOf p c (suc (length lengths + d)) → Stands heap from (grid p c (n ∷ lengths) from) → AllTyped (grid p c (n ∷ lengths) from)
  grid_typed n [] c d from q stands zero less = array_typed p heap c n q.array
  grid_typed n [] c d from q stands (suc k) less = absurd (omega (arith, less))
  grid_typed n (m ∷ lengths) c d from q stands k less =
      both_typed (outer ∷ []) (parts_of part n each (from + 1)) k less (first many)
      (parts_typed part each size (λ from stands. grid_typed m lengths (component_of p c) d from (component_array p c (length lengths + d) many) stands) n (from + 1) behind)
    where
      part : ℕ → List Object
      part = grid p (component_of p c) (m ∷ lengths)

      each : ℕ
      each = grid_objects (m ∷ lengths)

      size : (from : ℕ) → length (part from) ≡ each
      size = grid_length p (m ∷ lengths) (component_of p c)

      outer : Object
      outer = record { class = c; size = n; cells = references_to n each (from + 1) }

      many : IsArrayOf p c (suc (suc (length lengths + d)))
      many = let same : suc (length lengths) + d ≡ suc (length lengths + d) = omega arith in subst (λ k. IsArrayOf p c (suc k)) same q

      behind : Stands heap (from + 1) (parts_of part n each (from + 1))
      behind = stands_back heap from (from + 1) (outer ∷ []) (parts_of part n each (from + 1)) refl stands

      first : IsArrayOf p c (suc (suc (length lengths + d))) → AllTyped (outer ∷ [])
      first deep zero less =
          outer_typed c (length lengths + d) n each (from + 1) deep
          (references_typed part each (component_of p c) (some_objects m lengths) size (grid_class p (component_of p c) m lengths) n (from + 1) behind)
      first deep (suc k) less = absurd (omega (arith, less))
