-- Stores to arrays, and loads of references.
use Rattle.std.proofs.Common.{Bool, List, None, Option, Some, [], ap, false, inl, inr, length, refl, subst, suc, sym, true, zero, ℕ, ℤ, ◌<◌, ◌∙◌, ◌∷◌, ◌≡◌, ◌⊎◌}
use Rattle.std.proofs.lemmas.Bool.{ltb-true}
use Rattle.std.specs.Prelude.{if◌then◌else◌, nat_le, nat_lt, option_map, slice_set, ◌&&◌, ◌||◌}
use Rattle.vx_desc.specs.declared.java_type.Base.TheVariants as base
use Rattle.vx_java.specs.Arrays.{at_index, element_bases, element_sort, is_array_of, load_element, may_hold, may_store, store_element, value_kept}
use Rattle.vx_java.specs.Checks.{is_object, is_of, non_null, sort_of_base}
use Rattle.vx_java.specs.Machine.{Go, Here, Int, Null, Object, Outcome, Ref, Value, illegal, object_at, past, raise, when, with_cell}
use Rattle.vx_java.specs.declared.operation.Element.{Element}
use Rattle.vx_java.specs.declared.operation.Element.TheVariants.{Bytes, Chars, Ints, Longs, References, Shorts}
use Rattle.vx_java.specs.declared.operation.Sort.TheVariants as sort
use Rattle.vx_link.specs.ClassNames.{class_element, component_of, dimensions_of, element_of, has_reference_components, is_array}
use Rattle.vx_link.specs.declared.program.Program.{Program}
use Rattle.vx_list.specs.Places.{item_or}
use Rattle.vx_sound.proofs.ArrayRows.{MayBeArray, at_index_typed, changed_array, element_type, is_primitive, loaded, may_be, room_for}
use Rattle.vx_sound.proofs.Assigned.{assigned}
use Rattle.vx_sound.proofs.Changes.{writes}
use Rattle.vx_sound.proofs.Elements.{IsObjectOf, component_is, of_reference, reference_array}
use Rattle.vx_sound.proofs.Heaps.{changed_later}
use Rattle.vx_sound.proofs.Sites.{AtSite, LeadsTo, Typed, behind, raises, types_in, types_with}
use Rattle.vx_sound.proofs.Taken.{int_on_top, on_top}
use Rattle.vx_sound.proofs.Values.{IsReference, class_reference, int_value, long_value, none_some, some_same, sort_of_typed}
use Rattle.vx_sound.specs.Typed.{Typings}
use Rattle.vx_sound.specs.Values.{cell_type, type_of_class, type_of_number, type_of_value}
use Rattle.vx_types.proofs.Tests.{both, both_first}
use Rattle.vx_types.specs.Fits.{fits}
use Rattle.vx_types.specs.Flow as flow
use Rattle.vx_types.specs.Flow.{component, load_reference, meets, taken}
use Rattle.vx_types.specs.Plain.{int}
use Rattle.vx_types.specs.Rows.{arrays_of, references, stored_in}
use Rattle.vx_types.specs.declared.types.VerType.{VerType}
use Rattle.vx_types.specs.declared.types.VerType.TheVariants as is
use Rattle.vx_types.specs.declared.types.Want.{Want}
use Rattle.vx_types.specs.declared.types.Want.TheVariants.{OfSort}
use Rattle.vx_value.specs.Arithmetic.{natural}

-- ---- what is wanted of a value that is stored

stored_wanted : (e : Element) → stored_in e ≡ OfSort (element_sort e)
stored_wanted Longs = refl
stored_wanted References = refl
stored_wanted Ints = refl
stored_wanted Bytes = refl
stored_wanted Chars = refl
stored_wanted Shorts = refl

-- what an array of primitives keeps of a value
kept_type : (p : Program) (heap : List Object) (e : Element) (v : Value) → is_primitive e ≡ true → flow.is_of (element_sort e) (type_of_value p heap v) ≡ true
    → fits p (type_of_value p heap (value_kept e v)) (element_type e) ≡ true
kept_type p heap Longs v k of = long_value p heap (λ w. fits p (type_of_value p heap (value_kept Longs w)) is.Long ≡ true) v of (λ n. refl)
kept_type p heap Ints v k of = int_value p heap (λ w. fits p (type_of_value p heap (value_kept Ints w)) is.Int ≡ true) v of (λ n. refl)
kept_type p heap Bytes v k of = int_value p heap (λ w. fits p (type_of_value p heap (value_kept Bytes w)) is.Int ≡ true) v of (λ n. refl)
kept_type p heap Chars v k of = int_value p heap (λ w. fits p (type_of_value p heap (value_kept Chars w)) is.Int ≡ true) v of (λ n. refl)
kept_type p heap Shorts v k of = int_value p heap (λ w. fits p (type_of_value p heap (value_kept Shorts w)) is.Int ≡ true) v of (λ n. refl)
kept_type p heap References v k of = absurd cc

-- ---- loads of references by their types

int_first : (t : VerType) (ts made : List VerType) → load_reference (t ∷ ts) ≡ Some made → t ≡ is.Int
int_first is.Int ts made e = refl
int_first is.Top ts made e = none_some e
int_first is.Long ts made e = none_some e
int_first is.Null ts made e = none_some e
int_first (is.Ref d n) ts made e = none_some e

abbrev object_in : Value → ℕ
object_in (Ref r) = r
object_in _ = 0

module _ (typings : Typings) (h : Here) (site : AtSite typings h) where
  abbrev heap : List Object
  heap = h.state.heap

  -- ---- stores

  abbrev storing : Element → Value → ℤ → Value → List Value → Outcome
  storing e v i a under =
      when (is_of (element_sort e) v && is_object h (is_array_of h.program e) a)
      (non_null h a (λ r. at_index h r i
      (when (may_store h e r v)
      (Go (past h (with_cell h.state r (natural i) (value_kept e v)) under))
      (raise h "java/lang/ArrayStoreException"))))
      (illegal h)

  stored : (e : Element) (t : VerType) (v : Value) (i : ℤ) (a : Value) (under : List Value) (rest : List VerType) → is_of (element_sort e) v ≡ true → MayBeArray h.program heap e t a
      → ((r : ℕ) → a ≡ Ref r → may_store h e r v ≡ true → fits h.program (type_of_value h.program heap (value_kept e v)) t ≡ true) → Some (types_in h under) ≡ Some rest
      → LeadsTo typings h (behind h ∷ []) (types_with h rest) → Typed typings h (storing e v i a under)
  stored e t v i a under rest of (inl null) kept same leads =
      subst (λ (x : Value). Typed typings h (storing e v i x under)) (sym null)
      (subst (λ b. Typed typings h (when b (raise h "java/lang/NullPointerException") (illegal h))) (sym (both (is_of (element_sort e) v) true of refl))
      (raises typings h site "java/lang/NullPointerException" None refl))
  stored e t v i a under rest of (inr q) kept same leads =
      subst (λ (x : Value). Typed typings h (storing e v i x under)) (sym q.is)
      (subst (λ b. Typed typings h (when b (at_index h q.object i (when (may_store h e q.object v) (Go (past h (with_cell h.state q.object (natural i) (value_kept e v)) under)) (raise h "java/lang/ArrayStoreException"))) (illegal h)))
      (sym (both (is_of (element_sort e) v) (is_array_of h.program e (object_at h.state q.object).class) of q.class))
      (at_index_typed typings h site q.object i (when (may_store h e q.object v) (Go (past h (with_cell h.state q.object (natural i) (value_kept e v)) under)) (raise h "java/lang/ArrayStoreException"))
      (λ within. by (may_store h e q.object v) refl)))
    where
      o : Object
      o = object_at h.state q.object

      changed : Object
      changed = record (object_at h.state q.object) { cells = slice_set ((object_at h.state q.object).cells) (natural i) (value_kept e v) }

      by : (b : Bool) → may_store h e q.object v ≡ b
          → Typed typings h (when b (Go (past h (with_cell h.state q.object (natural i) (value_kept e v)) under)) (raise h "java/lang/ArrayStoreException"))
      by false fails = raises typings h site "java/lang/ArrayStoreException" None refl
      by true passes =
          writes typings h site q.object changed under rest refl
          (changed_array h.program site.sound.hierarchy.ranked heap (slice_set heap q.object changed) (changed_later heap q.object changed refl) (object_at h.state q.object) (natural i) (value_kept e v) q.array
          (site.state.heap.objects q.object q.there)
          (subst (λ (u : VerType). fits h.program (type_of_value h.program heap (value_kept e v)) u ≡ true) (sym q.cells) (kept q.object q.is passes))) same leads

  -- an array of references, and what it keeps
  reference_may : (a : Value) → fits h.program (type_of_value h.program heap a) (references h.program) ≡ true → (v : Value) → flow.is_of sort.Reference (type_of_value h.program heap v) ≡ true
      → (t : VerType) × MayBeArray h.program heap References t a × ((r : ℕ) → a ≡ Ref r → may_store h References r v ≡ true → fits h.program (type_of_value h.program heap v) t ≡ true)
  reference_may a fit v of = by (of_reference h.program heap (references h.program) a (record { dimensions = 1; element = _; is = refl }) fit)
    where
      of_object : (q : IsObjectOf h.program heap (references h.program) a) → has_reference_components h.program (object_at h.state q.object).class ≡ true
      of_object q = reference_array h.program (object_at h.state q.object).class q.fit

      cells_are : (c : ℕ) → has_reference_components h.program c ≡ true → cell_type h.program c ≡ type_of_class h.program (component_of h.program c)
      cells_are c has =
          ap (λ b. if b then type_of_class h.program (component_of h.program c) else type_of_number (sort_of_base (item_or element_bases (element_of h.program c) base.Int))) has

      null_fits : (c : ℕ) → has_reference_components h.program c ≡ true → fits h.program is.Null (cell_type h.program c) ≡ true
      null_fits c has =
          let q = class_reference h.program (component_of h.program c) in
          subst (λ (t : VerType). fits h.program is.Null t ≡ true) (sym (cells_are c has)) (subst (λ (t : VerType). fits h.program is.Null t ≡ true) (sym q.is) refl)

      -- what may be held is of the components' type
      holds : (c r : ℕ) → has_reference_components h.program c ≡ true → (object_at h.state r).class ≡ c → (w : Value) → flow.is_of sort.Reference (type_of_value h.program heap w) ≡ true
          → may_hold h r w ≡ true → fits h.program (type_of_value h.program heap w) (cell_type h.program c) ≡ true
      holds c r has class Null of passes = null_fits c has
      holds c r has class (Ref x) of passes = by_there (nat_lt x (length heap)) of
        where
          assigns : fits h.program (type_of_class h.program (object_at h.state x).class) (cell_type h.program c) ≡ true
          assigns =
              subst (λ (t : VerType). fits h.program (type_of_class h.program (object_at h.state x).class) t ≡ true) (sym (cells_are c has))
              (subst (λ k. fits h.program (type_of_class h.program (object_at h.state x).class) (type_of_class h.program (component_of h.program k)) ≡ true) class
              (assigned h.program site.sound.hierarchy site.sound.core (object_at h.state x).class (component_of h.program (object_at h.state r).class) passes))

          by_there : (b : Bool) → flow.is_of sort.Reference (if b then type_of_class h.program (object_at h.state x).class else is.Top) ≡ true
              → fits h.program (if b then type_of_class h.program (object_at h.state x).class else is.Top) (cell_type h.program c) ≡ true
          by_there true k = assigns
          by_there false k = absurd cc
      holds c r has class _ of passes = absurd cc

      by : (a ≡ Null) ⊎ IsObjectOf h.program heap (references h.program) a
          → (t : VerType) × MayBeArray h.program heap References t a × ((r : ℕ) → a ≡ Ref r → may_store h References r v ≡ true → fits h.program (type_of_value h.program heap v) t ≡ true)
      by (inl null) = (is.Top, inl null, λ r is passes. refl)
      by (inr q) =
          let c : ℕ = (object_at h.state q.object).class in (
            cell_type h.program c,
            inr (record {
              object = q.object;
              is = q.is;
              there = q.there;
              class = of_object q;
              array = both_first (is_array h.program c) (nat_lt 1 (dimensions_of h.program c) || nat_le (class_element 0) (element_of h.program c)) (of_object q);
              cells = refl;
            }),
            λ r is passes. holds c r (of_object q) (ap (λ k. (object_at h.state k).class) (ap object_in (sym is ∙ q.is))) v of passes,
          )

  pub store_typed : (e : Element) (operands : List Value) (rest : List VerType) → taken h.program (stored_in e ∷ int ∷ arrays_of h.program e ∷ []) (types_in h operands) ≡ Some rest
      → LeadsTo typings h (behind h ∷ []) (types_with h rest) → Typed typings h (store_element h e operands)
  store_typed e operands rest took leads =
      on_top h.program heap (λ os. Typed typings h (store_element h e os)) (stored_in e) (int ∷ arrays_of h.program e ∷ []) operands rest took (λ v above met one.
      int_on_top h.program heap (λ os. Typed typings h (store_element h e (v ∷ os))) (arrays_of h.program e ∷ []) above rest one (λ i more two.
      on_top h.program heap (λ os. Typed typings h (store_element h e (v ∷ Int i ∷ os))) (arrays_of h.program e) [] more rest two (λ a under fit same.
      by e v i a under (subst (λ (w : Want). meets h.program w (type_of_value h.program heap v) ≡ true) (stored_wanted e) met) fit same)))
    where
      primitive : (x : Element) → is_primitive x ≡ true → (v : Value) (i : ℤ) (a : Value) (under : List Value) → flow.is_of (element_sort x) (type_of_value h.program heap v) ≡ true
          → meets h.program (arrays_of h.program x) (type_of_value h.program heap a) ≡ true → Some (types_in h under) ≡ Some rest → Typed typings h (storing x v i a under)
      primitive x k v i a under of fit same =
          stored x (element_type x) v i a under rest (sort_of_typed h.program heap (element_sort x) v of) (may_be h.program heap x a k fit) (λ r is passes. kept_type h.program heap x v k of) same leads

      by : (x : Element) (v : Value) (i : ℤ) (a : Value) (under : List Value) → flow.is_of (element_sort x) (type_of_value h.program heap v) ≡ true
          → meets h.program (arrays_of h.program x) (type_of_value h.program heap a) ≡ true → Some (types_in h under) ≡ Some rest → Typed typings h (storing x v i a under)
      by References v i a under of fit same =
          let q = reference_may a fit v of in
          stored References q.0 v i a under rest (sort_of_typed h.program heap sort.Reference v of) q.1 q.2 same leads
      by Ints v i a under of fit same = primitive Ints refl v i a under of fit same
      by Longs v i a under of fit same = primitive Longs refl v i a under of fit same
      by Bytes v i a under of fit same = primitive Bytes refl v i a under of fit same
      by Chars v i a under of fit same = primitive Chars refl v i a under of fit same
      by Shorts v i a under of fit same = primitive Shorts refl v i a under of fit same

  -- ---- loads of references

  -- a component is of the type that the type of the array tells
  component_may : (a : Value) (t : VerType) → component (type_of_value h.program heap a) ≡ Some t → MayBeArray h.program heap References t a × (flow.width t ≡ 1)
  component_may Null t e = (inl refl, subst (λ (u : VerType). flow.width u ≡ 1) (some_same e) refl)
  component_may (Ref r) t e = by (nat_lt r (length heap)) refl e
    where
      c : ℕ
      c = (object_at h.state r).class

      of_class : r < length heap → (q : IsReference (type_of_class h.program (object_at h.state r).class)) → (d : ℕ) → q.dimensions ≡ d → component (is.Ref d q.element) ≡ Some t
          → MayBeArray h.program heap References t (Ref r) × (flow.width t ≡ 1)
      of_class there q zero same k = none_some k
      of_class there q (suc d) same k =
          let parts = component_is h.program (object_at h.state r).class d q.element (q.is ∙ ap (λ n. is.Ref n q.element) same) in (
            inr (record {
              object = r;
              is = refl;
              there = there;
              class = parts.0;
              array = both_first (is_array h.program (object_at h.state r).class) (nat_lt 1 (dimensions_of h.program (object_at h.state r).class) || nat_le (class_element 0) (element_of h.program (object_at h.state r).class)) parts.0;
              cells = parts.1 ∙ some_same k;
            }),
            subst (λ (u : VerType). flow.width u ≡ 1) (some_same k) refl,
          )

      by : (b : Bool) → nat_lt r (length heap) ≡ b → component (if b then type_of_class h.program (object_at h.state r).class else is.Top) ≡ Some t
          → MayBeArray h.program heap References t (Ref r) × (flow.width t ≡ 1)
      by true less k =
          let q = class_reference h.program (object_at h.state r).class in
          of_class (ltb-true r (length heap) less) q q.dimensions refl (subst (λ (u : VerType). component u ≡ Some t) q.is k)
      by false past k = none_some k
  component_may _ t e = none_some e

  pub load_reference_typed : (operands : List Value) (made : List VerType) → load_reference (types_in h operands) ≡ Some made → LeadsTo typings h (behind h ∷ []) (types_with h made)
      → Typed typings h (load_element h References operands)
  load_reference_typed [] made e leads = none_some e
  load_reference_typed (v ∷ []) made e leads =
      int_value h.program heap (λ w. load_reference (type_of_value h.program heap w ∷ []) ≡ Some made → Typed typings h (load_element h References (w ∷ []))) v
      (subst (λ (t : VerType). flow.is_of sort.Int t ≡ true) (sym (int_first (type_of_value h.program heap v) [] made e)) refl) (λ n k. none_some k) e
  load_reference_typed (v ∷ a ∷ under) made e leads =
      int_value h.program heap (λ w. load_reference (type_of_value h.program heap w ∷ types_in h (a ∷ under)) ≡ Some made → Typed typings h (load_element h References (w ∷ a ∷ under))) v
      (subst (λ (t : VerType). flow.is_of sort.Int t ≡ true) (sym (int_first (type_of_value h.program heap v) (types_in h (a ∷ under)) made e)) refl)
      (λ n k. by n (component (type_of_value h.program heap a)) refl k) e
    where
      by : (n : ℤ) (o : Option VerType) → component (type_of_value h.program heap a) ≡ o → option_map (λ (t : VerType). t ∷ types_in h under) o ≡ Some made
          → Typed typings h (load_element h References (Int n ∷ a ∷ under))
      by n None q k = none_some k
      by n (Some t) q k =
          let may = component_may a t q in
          let on = subst (λ (ts : List VerType). LeadsTo typings h (behind h ∷ []) (types_with h ts)) (sym (some_same k)) leads in
          loaded typings h site References t n a under (types_in h under) may.0 (room_for typings h site 1 t under (types_in h under) may.1 refl on) refl on
