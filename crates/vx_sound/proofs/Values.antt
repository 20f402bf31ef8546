-- The types of values: what a value of a type is, and what the types become where values are put, taken and moved.
use Rattle.std.proofs.Common.{Bool, List, [], ap, arith, false, inl, inr, length, refl, subst, suc, sym, true, zero, ℕ, ℤ, ◌++◌, ◌+◌, ◌∙◌, ◌∷◌, ◌≡◌, ◌≤◌, ◌⊎◌, None, Option, Some}
use Rattle.std.proofs.lemmas.List.{map-set}
use Rattle.std.specs.Prelude.{if◌then◌else◌, nat_lt, slice_set}
use Rattle.vx_java.specs.Checks.{is_of}
use Rattle.vx_java.specs.Locals.{locals_with, unless_long, without_half}
use Rattle.vx_java.specs.Machine.{Int, Long, Null, Object, Ref, Text, Top, Value, no_object, stack_size, width}
use Rattle.vx_java.specs.declared.operation.Sort.{Sort}
use Rattle.vx_java.specs.declared.operation.Sort.TheVariants as sort
use Rattle.vx_link.specs.ClassNames.{class_element, dimensions_of, element_of, is_array}
use Rattle.vx_link.specs.declared.program.Program.{Program}
use Rattle.vx_list.specs.Places.{item_or}
use Rattle.vx_sound.specs.Values.{array_type, type_of_class, type_of_reference, type_of_value, types_of_values}
use Rattle.vx_types.specs.Fits.{fits}
use Rattle.vx_types.specs.Flow as flow
use Rattle.vx_types.specs.Types.{class_type, element_of_class}
use Rattle.vx_types.specs.declared.types.ElementType.{ElementType}
use Rattle.vx_types.specs.declared.types.VerType.{VerType}
use Rattle.vx_types.specs.declared.types.VerType.TheVariants as is
use Rattle.vx_verify.specs.Typing.{is_known}

pub some_same : {A : Type 0} {x y : A} → Some x ≡ Some y → x ≡ y
some_same h = cc

pub none_some : {A P : Type 0} {x : A} → ◌≡◌ {A = Option A} None (Some x) → P
none_some h = absurd cc

-- ---- references

-- a type of references
pub record IsReference (t : VerType) : Type 0 where
  pub dimensions : ℕ
  pub element : ElementType
  pub is : t ≡ is.Ref dimensions element

either_reference : (b : Bool) (t u : VerType) → IsReference t → IsReference u → IsReference (if b then t else u)
either_reference true t u h k = h
either_reference false t u h k = k

pub class_reference : (p : Program) (c : ℕ) → IsReference (type_of_class p c)
class_reference p c =
    either_reference (is_array p c) (array_type p (dimensions_of p c) (element_of p c)) (class_type p c)
    (either_reference (nat_lt (element_of p c) (class_element 0)) _ _ (record { dimensions = _; element = _; is = refl }) (record { dimensions = _; element = _; is = refl }))
    (record { dimensions = 0; element = element_of_class p c; is = refl })

-- a reference is of such a type where its object is there
pub reference_cases : (p : Program) (heap : List Object) (r : ℕ) → (type_of_reference p heap r ≡ is.Top) ⊎ IsReference (type_of_reference p heap r)
reference_cases p heap r = by (nat_lt r (length heap))
  where
    by : (b : Bool) → ((if b then type_of_class p (item_or heap r no_object).class else is.Top) ≡ is.Top) ⊎ IsReference (if b then type_of_class p (item_or heap r no_object).class else is.Top)
    by true = inr (class_reference p (item_or heap r no_object).class)
    by false = inl refl

nothing_fits : {P : Type 0} (p : Program) (t : VerType) → fits p is.Top t ≡ true → is_known t ≡ true → P
nothing_fits p is.Top h k = absurd cc
nothing_fits p _ h k = absurd cc

-- a reference of a type that can be read names an object
pub object_there : (p : Program) (heap : List Object) (r : ℕ) (t : VerType) → fits p (type_of_reference p heap r) t ≡ true → is_known t ≡ true → nat_lt r (length heap) ≡ true
object_there p heap r t = by (nat_lt r (length heap))
  where
    by : (b : Bool) → fits p (if b then type_of_class p (item_or heap r no_object).class else is.Top) t ≡ true → is_known t ≡ true → b ≡ true
    by true h k = refl
    by false h k = nothing_fits p t h k

module _ (p : Program) (heap : List Object) where
  -- ---- lists of values

  pub type_at : (values : List Value) (i : ℕ) → item_or (types_of_values p heap values) i is.Top ≡ type_of_value p heap (item_or values i Top)
  type_at [] i = refl
  type_at (v ∷ values) zero = refl
  type_at (v ∷ values) (suc i) = type_at values i

  pub types_append : (above under : List Value) → types_of_values p heap (above ++ under) ≡ types_of_values p heap above ++ types_of_values p heap under
  types_append [] under = refl
  types_append (v ∷ above) under = ap (λ (ts : List VerType). type_of_value p heap v ∷ ts) (types_append above under)

  -- ---- sizes

  some_width : (t : VerType) → 1 ≤ flow.width t
  some_width is.Top = omega arith
  some_width is.Int = omega arith
  some_width is.Long = omega arith
  some_width is.Null = omega arith
  some_width (is.Ref d e) = omega arith

  width_within : (v : Value) → width v ≤ flow.width (type_of_value p heap v)
  width_within Top = omega arith
  width_within (Int n) = omega arith
  width_within (Long n) = omega arith
  width_within Null = omega arith
  width_within (Ref r) = some_width (type_of_reference p heap r)
  width_within (Text units) = omega arith

  pub size_within : (values : List Value) → stack_size values ≤ flow.stack_size (types_of_values p heap values)
  size_within [] = omega arith
  size_within (v ∷ values) = let first = width_within v in let others = size_within values in omega (arith, first, others)

  -- ---- what a value of a sort is

  no_number : {P : Type 0} (r : ℕ) (s : Sort) → flow.is_of s (type_of_reference p heap r) ≡ true → (flow.is_of s is.Top ≡ false) → ((d : ℕ) (e : ElementType) → flow.is_of s (is.Ref d e) ≡ false) → P
  no_number {P} r s h none number = by (reference_cases p heap r)
    where
      by : (type_of_reference p heap r ≡ is.Top) ⊎ IsReference (type_of_reference p heap r) → P
      by (inl q) = let k : flow.is_of s is.Top ≡ true = subst (λ (t : VerType). flow.is_of s t ≡ true) q h in absurd cc
      by (inr q) =
          let k : flow.is_of s (is.Ref q.dimensions q.element) ≡ true = subst (λ (t : VerType). flow.is_of s t ≡ true) q.is h in
          let l = number q.dimensions q.element in absurd cc

  pub int_value : (P : Value → Type 0) (v : Value) → flow.is_of sort.Int (type_of_value p heap v) ≡ true → ((n : ℤ) → P (Int n)) → P v
  int_value P (Int n) h each = each n
  int_value P (Ref r) h each = no_number r sort.Int h refl (λ d e. refl)
  int_value P _ h each = absurd cc

  pub long_value : (P : Value → Type 0) (v : Value) → flow.is_of sort.Long (type_of_value p heap v) ≡ true → ((n : ℤ) → P (Long n)) → P v
  long_value P (Long n) h each = each n
  long_value P (Ref r) h each = no_number r sort.Long h refl (λ d e. refl)
  long_value P _ h each = absurd cc

  pub reference_value : (P : Value → Type 0) (v : Value) → flow.is_of sort.Reference (type_of_value p heap v) ≡ true → P Null → ((r : ℕ) → IsReference (type_of_reference p heap r) → P (Ref r)) → P v
  reference_value P Null h null each = null
  reference_value P (Ref r) h null each = by (reference_cases p heap r)
    where
      by : (type_of_reference p heap r ≡ is.Top) ⊎ IsReference (type_of_reference p heap r) → P (Ref r)
      by (inl q) = let k : flow.is_of sort.Reference is.Top ≡ true = subst (λ (t : VerType). flow.is_of sort.Reference t ≡ true) q h in absurd cc
      by (inr q) = each r q
  reference_value P _ h null each = absurd cc

  pub sort_of_typed : (s : Sort) (v : Value) → flow.is_of s (type_of_value p heap v) ≡ true → is_of s v ≡ true
  sort_of_typed sort.Int v h = int_value (λ w. is_of sort.Int w ≡ true) v h (λ n. refl)
  sort_of_typed sort.Long v h = long_value (λ w. is_of sort.Long w ≡ true) v h (λ n. refl)
  sort_of_typed sort.Reference v h = reference_value (λ w. is_of sort.Reference w ≡ true) v h refl (λ r q. refl)

  -- ---- local variables

  unless_long_typed : (v : Value) → type_of_value p heap (unless_long v) ≡ flow.unless_long (type_of_value p heap v)
  unless_long_typed Top = refl
  unless_long_typed (Int n) = refl
  unless_long_typed (Long n) = refl
  unless_long_typed Null = refl
  unless_long_typed (Ref r) = by (reference_cases p heap r)
    where
      same : (t : VerType) → IsReference t → t ≡ flow.unless_long t
      same t q = subst (λ (u : VerType). u ≡ flow.unless_long u) (sym q.is) refl

      by : (type_of_reference p heap r ≡ is.Top) ⊎ IsReference (type_of_reference p heap r) → type_of_reference p heap r ≡ flow.unless_long (type_of_reference p heap r)
      by (inl q) = subst (λ (u : VerType). u ≡ flow.unless_long u) (sym q) refl
      by (inr q) = same (type_of_reference p heap r) q
  unless_long_typed (Text units) = refl

  without_half_typed : (locals : List Value) (n : ℕ) → types_of_values p heap (without_half locals n) ≡ flow.without_half (types_of_values p heap locals) n
  without_half_typed locals zero = refl
  without_half_typed locals (suc n) =
      map-set (type_of_value p heap) locals n (unless_long (item_or locals n Top))
      ∙ ap (slice_set (types_of_values p heap locals) n) (unless_long_typed (item_or locals n Top) ∙ ap flow.unless_long (sym (type_at locals n)))

  -- a value that takes one place
  one_place : (locals : List Value) (n : ℕ) (v : Value) → types_of_values p heap (slice_set (without_half locals n) n v) ≡ slice_set (flow.without_half (types_of_values p heap locals) n) n (type_of_value p heap v)
  one_place locals n v =
      map-set (type_of_value p heap) (without_half locals n) n v
      ∙ ap (λ (ts : List VerType). slice_set ts n (type_of_value p heap v)) (without_half_typed locals n)

  -- the local variables behind a store are of the types behind it
  pub stored_typed : (s : Sort) (locals : List Value) (n : ℕ) (v : Value) → flow.is_of s (type_of_value p heap v) ≡ true
      → types_of_values p heap (locals_with locals n v) ≡ flow.locals_with (types_of_values p heap locals) n (type_of_value p heap v)
  stored_typed sort.Int locals n v h = int_value (λ w. types_of_values p heap (locals_with locals n w) ≡ flow.locals_with (types_of_values p heap locals) n (type_of_value p heap w)) v h
      (λ a. one_place locals n (Int a))
  stored_typed sort.Long locals n v h = long_value (λ w. types_of_values p heap (locals_with locals n w) ≡ flow.locals_with (types_of_values p heap locals) n (type_of_value p heap w)) v h
      (λ a. map-set (type_of_value p heap) (slice_set (without_half locals n) n (Long a)) (n + 1) Top ∙ ap (λ (ts : List VerType). slice_set ts (n + 1) is.Top) (one_place locals n (Long a)))
  stored_typed sort.Reference locals n v h = reference_value (λ w. types_of_values p heap (locals_with locals n w) ≡ flow.locals_with (types_of_values p heap locals) n (type_of_value p heap w)) v h
      (one_place locals n Null) of_reference
    where
      set : (t : VerType) → IsReference t → slice_set (flow.without_half (types_of_values p heap locals) n) n t ≡ flow.locals_with (types_of_values p heap locals) n t
      set t q = subst (λ (u : VerType). slice_set (flow.without_half (types_of_values p heap locals) n) n u ≡ flow.locals_with (types_of_values p heap locals) n u) (sym q.is) refl

      of_reference : (r : ℕ) → IsReference (type_of_reference p heap r)
          → types_of_values p heap (locals_with locals n (Ref r)) ≡ flow.locals_with (types_of_values p heap locals) n (type_of_reference p heap r)
      of_reference r q = one_place locals n (Ref r) ∙ set (type_of_reference p heap r) q

-- what stands at a place already changes nothing there
pub set_same : (ts : List VerType) (i : ℕ) (t : VerType) → item_or ts i is.Top ≡ t → slice_set ts i t ≡ ts
set_same [] i t h = refl
set_same (u ∷ ts) zero t h = ap (λ (w : VerType). w ∷ ts) (sym h)
set_same (u ∷ ts) (suc i) t h = ap (λ (ws : List VerType). u ∷ ws) (set_same ts i t h)
