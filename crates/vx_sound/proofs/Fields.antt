-- Objects whose fields change, and values that a descriptor's type is said of.
use Rattle.std.proofs.Common.{List, None, Option, Some, [], ap, false, inl, inr, length, refl, subst, suc, sym, true, zero, ℕ, ◌<◌, ◌∙◌, ◌∷◌, ◌≡◌, ◌⊎◌}
use Rattle.std.specs.Prelude.{option_map, slice_set}
use Rattle.vx_desc.specs.declared.java_type.Base.{Base}
use Rattle.vx_desc.specs.declared.java_type.Base.TheVariants as base
use Rattle.vx_desc.specs.declared.java_type.JavaType.{JavaType}
use Rattle.vx_java.specs.Checks.{fits_type, is_of_sort, sort_of, width_of_optional, width_of_type}
use Rattle.vx_java.specs.FirstObjects.{narrow_of_type, narrowed_value, narrowed_value_to}
use Rattle.vx_java.specs.Machine.{Int, Long, Null, Object, Ref, Text, Top, Value}
use Rattle.vx_java.specs.declared.operation.Sort.{Sort}
use Rattle.vx_java.specs.declared.operation.Sort.TheVariants as sort
use Rattle.vx_link.specs.ClassNames.{is_array}
use Rattle.vx_link.specs.Parts.{field_at}
use Rattle.vx_link.specs.declared.program.Program.{Program}
use Rattle.vx_list.specs.Places.{item_or}
use Rattle.vx_sound.proofs.Heaps.{IsLaterHeap, still}
use Rattle.vx_sound.proofs.Values.{IsReference, none_some, some_same, sort_of_typed}
use Rattle.vx_sound.specs.Sound.{HasCells}
use Rattle.vx_sound.specs.Typed.{IsTypedObject, has_field}
use Rattle.vx_sound.specs.Values.{type_of_field, type_of_value}
use Rattle.vx_types.proofs.Lists.{sort_below}
use Rattle.vx_types.proofs.Tests.{not_both}
use Rattle.vx_types.specs.Fits.{fits}
use Rattle.vx_types.specs.Flow as flow
use Rattle.vx_types.specs.Ranked.{IsRanked}
use Rattle.vx_types.specs.Types.{ref_of_base, type_of, type_of_sort}
use Rattle.vx_types.specs.declared.types.VerType.{VerType}
use Rattle.vx_types.specs.declared.types.VerType.TheVariants as is
use Rattle.vx_value.specs.declared.operation.Narrow.{Narrow}

-- ---- a place that is written

-- where a place of a list is written, each place has the new value, and is that place, or what it had
pub set_view : {A : Type 0} (xs : List A) (i k : ℕ) (w d : A) → ((k ≡ i) × (item_or (slice_set xs i w) k d ≡ w)) ⊎ (item_or (slice_set xs i w) k d ≡ item_or xs k d)
set_view [] i k w d = inr refl
set_view (x ∷ xs) zero zero w d = inl (refl, refl)
set_view (x ∷ xs) zero (suc k) w d = inr refl
set_view (x ∷ xs) (suc i) zero w d = inr refl
set_view (x ∷ xs) (suc i) (suc k) w d = elim (set_view xs i k w d) [ inl q ↦ inl (ap suc q.0, q.1) | inr q ↦ inr q ]

-- ---- an object one of whose fields changes

pub changed_field : (p : Program) → IsRanked p → HasCells p → (heap later : List Object) → IsLaterHeap heap later → (o : Object) (f : ℕ) (w : Value) → is_array p o.class ≡ false
    → f < length p.fields → has_field p o.class f ≡ true → IsTypedObject p heap o → fits p (type_of_value p heap w) (type_of_field p f) ≡ true
    → IsTypedObject p later (record o { cells = slice_set (o.cells) ((field_at p f).cell) w })
changed_field p ranked cells heap later grows o f w plain within there typed fit = record {
  size = λ array. not_both (is_array p o.class) array plain;
  cells = λ array k less. not_both (is_array p o.class) array plain;
  fields = λ a g less has. by g less has (set_view o.cells (field_at p f).cell (field_at p g).cell w Top);
}
  where
    by : (g : ℕ) → g < length p.fields → has_field p o.class g ≡ true
        → (((field_at p g).cell ≡ (field_at p f).cell) × (item_or (slice_set o.cells (field_at p f).cell w) (field_at p g).cell Top ≡ w))
        ⊎ (item_or (slice_set o.cells (field_at p f).cell w) (field_at p g).cell Top ≡ item_or o.cells (field_at p g).cell Top)
        → fits p (type_of_value p later (item_or (slice_set o.cells (field_at p f).cell w) (field_at p g).cell Top)) (type_of_field p g) ≡ true
    by g less has (inl q) =
        let same : g ≡ f = cells.own o.class g f less within has there q.0 in
        subst (λ (v : Value). fits p (type_of_value p later v) (type_of_field p g) ≡ true) (sym q.1)
        (subst (λ k. fits p (type_of_value p later w) (type_of_field p k) ≡ true) (sym same) (still p ranked heap later grows w (type_of_field p f) fit))
    by g less has (inr q) =
        subst (λ (v : Value). fits p (type_of_value p later v) (type_of_field p g) ≡ true) (sym q)
        (still p ranked heap later grows (item_or o.cells (field_at p g).cell Top) (type_of_field p g) (typed.fields plain g less has))

-- ---- values of a descriptor's type

pub base_reference : (p : Program) (more : ℕ) (descriptor : List ℕ) (t : JavaType) (b : Base) → IsReference (ref_of_base p more descriptor t b)
base_reference p more descriptor t base.Class = record { dimensions = _; element = _; is = refl }
base_reference p more descriptor t _ = record { dimensions = _; element = _; is = refl }

-- a type of a sort
pub type_sort : (p : Program) (descriptor : List ℕ) (t : JavaType) (s : Sort) → flow.is_of s (type_of_sort p descriptor t s) ≡ true
type_sort p descriptor t sort.Int = refl
type_sort p descriptor t sort.Long = refl
type_sort p descriptor t sort.Reference = let q = base_reference p 0 descriptor t t.base in subst (λ (u : VerType). flow.is_of sort.Reference u ≡ true) (sym q.is) refl

width_sort : (s : Sort) (t : VerType) → flow.is_of s t ≡ true → flow.width t ≡ width_of_optional (Some s)
width_sort sort.Int is.Int h = refl
width_sort sort.Long is.Long h = refl
width_sort sort.Reference is.Null h = refl
width_sort sort.Reference (is.Ref d e) h = refl
width_sort _ _ h = absurd cc

-- the sort of a type of a descriptor
pub record IsSorted (t : JavaType) (v : VerType) : Type 0 where
  pub kind : Sort
  pub is : sort_of t ≡ Some kind
  pub of : flow.is_of kind v ≡ true

module _ (p : Program) (descriptor : List ℕ) (t : JavaType) (v : VerType) where
  pub sorted : type_of p descriptor t ≡ Some v → IsSorted t v
  sorted e = by (sort_of t) refl e
    where
      by : (o : Option Sort) → sort_of t ≡ o → option_map (type_of_sort p descriptor t) o ≡ Some v → IsSorted t v
      by None s k = none_some k
      by (Some x) s k = record { kind = x; is = s; of = subst (λ (u : VerType). flow.is_of x u ≡ true) (some_same k) (type_sort p descriptor t x) }

  pub width_typed : type_of p descriptor t ≡ Some v → flow.width v ≡ width_of_type t
  width_typed e = let q = sorted e in width_sort q.kind v q.of ∙ ap width_of_optional (sym q.is)

  -- a value that fits it is of its sort
  pub sort_fits : type_of p descriptor t ≡ Some v → (heap : List Object) (w : Value) → fits p (type_of_value p heap w) v ≡ true → fits_type t w ≡ true
  sort_fits e heap w fit =
      let q = sorted e in
      ap (λ (o : Option Sort). is_of_sort o w) q.is ∙ sort_of_typed p heap q.kind w (sort_below p q.kind (type_of_value p heap w) v fit q.of)

-- narrowing keeps the type
pub narrowed_type : (p : Program) (heap : List Object) (t : JavaType) (w : Value) → type_of_value p heap (narrowed_value t w) ≡ type_of_value p heap w
narrowed_type p heap t w = by (narrow_of_type t) w
  where
    by : (o : Option Narrow) (v : Value) → type_of_value p heap (narrowed_value_to o v) ≡ type_of_value p heap v
    by None v = refl
    by (Some n) (Int k) = refl
    by (Some n) Top = refl
    by (Some n) (Long k) = refl
    by (Some n) Null = refl
    by (Some n) (Ref r) = refl
    by (Some n) (Text units) = refl
