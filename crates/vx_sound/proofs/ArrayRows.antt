-- The rows of arrays: what they take is such as they work on, and what they leave is typed.
use Rattle.std.proofs.Common.{Bool, List, None, Some, [], ap, arith, false, inl, inr, length, refl, subst, sym, true, ℕ, ℤ, ◌+◌, ◌<◌, ◌∙◌, ◌∷◌, ◌≡◌, ◌≤◌, ◌⊎◌, negsuc, pos}
use Rattle.std.proofs.lemmas.Bool.{le-leb, ltb-true}
use Rattle.std.proofs.lemmas.List.{length-set}
use Rattle.std.specs.Fmt.{signed_decimal}
use Rattle.std.specs.List.{list_any}
use Rattle.std.specs.Prelude.{if◌then◌else◌, map, nat_lt, slice_set, ◌&&◌, ◌==◌, ◌||◌}
use Rattle.std.proofs.lemmas.Bool.Decides.{Decides-eqb}
use Rattle.vx_desc.specs.declared.java_type.Base.{Base}
use Rattle.vx_desc.specs.declared.java_type.Base.TheVariants as base
use Rattle.vx_java.specs.Arrays.{array_length, at_index, element_bases, element_sort, is_array_of, load_element}
use Rattle.vx_java.specs.Checks.{is_object, is_within, non_null, sort_of_base, width_of_sort}
use Rattle.vx_java.specs.Machine.{Here, Int, Null, Object, Outcome, Ref, Top, Value, cell_at, go, has_room, illegal, no_object, object_at, past, raise, raise_with, stack_size, when}
use Rattle.vx_java.specs.declared.operation.Element.{Element}
use Rattle.vx_java.specs.declared.operation.Element.TheVariants.{Bytes, Chars, Ints, Longs, References, Shorts}
use Rattle.vx_value.specs.Arithmetic.{natural}
use Rattle.vx_link.specs.ClassNames.{array_class, is_array, primitive_element}
use Rattle.vx_link.specs.declared.program.Program.{Program}
use Rattle.vx_list.specs.Places.{item_or}
use Rattle.vx_sound.proofs.Elements.{IsObjectOf, array_wanted, of_reference, primitive_array, primitive_cells, primitive_class}
use Rattle.vx_sound.proofs.Heaps.{IsLaterHeap, still}
use Rattle.vx_sound.proofs.Sites.{AtSite, LeadsTo, Typed, behind, goes_fitting, raises, types_in, types_with}
use Rattle.vx_sound.proofs.Taken.{int_on_top, on_top}
use Rattle.vx_sound.proofs.Values.{size_within, some_same}
use Rattle.vx_sound.specs.Typed.{IsTypedObject, Typings}
use Rattle.vx_sound.specs.Values.{cell_type, type_of_class, type_of_number, type_of_value}
use Rattle.vx_types.proofs.FitLaws.{all_itself}
use Rattle.vx_types.proofs.Lists.{list_fits}
use Rattle.vx_types.proofs.Tests.{both, either, not_both, or_first, or_second}
use Rattle.vx_types.specs.Fits.{all_fit, fits}
use Rattle.vx_types.specs.Flow as flow
use Rattle.vx_types.specs.Flow.{meets, taken}
use Rattle.vx_types.specs.Plain.{int}
use Rattle.vx_types.specs.Ranked.{IsRanked}
use Rattle.vx_types.specs.Rows.{any_array, arrays_of, primitives, references}
use Rattle.vx_types.specs.declared.types.VerType.{VerType}
use Rattle.vx_types.specs.declared.types.VerType.TheVariants as is
use Rattle.vx_verify.proofs.Known.{item_set_elsewhere, item_set_here}
use Rattle.vx_verify.proofs.Putting.{is_or_not}

-- ---- arrays that an instruction works on

-- an array that an instruction of elements works on, and the type of its cells
pub record IsArrayOf (p : Program) (heap : List Object) (e : Element) (t : VerType) (v : Value) : Type 0 where
  pub object : ℕ
  pub is : v ≡ Ref object
  pub there : object < length heap
  pub class : is_array_of p e (item_or heap object no_object).class ≡ true
  pub array : is_array p (item_or heap object no_object).class ≡ true
  pub cells : cell_type p (item_or heap object no_object).class ≡ t

abbrev pub MayBeArray : Program → List Object → Element → VerType → Value → Type 0
MayBeArray p heap e t v = (v ≡ Null) ⊎ IsArrayOf p heap e t v

-- arrays of a primitive type
primitive_may : (p : Program) (heap : List Object) (e : Element) (b : Base) (t : VerType) (v : Value)
    → ((c : ℕ) → c ≡ array_class p 1 (primitive_element b) → is_array_of p e c ≡ true) → type_of_number (sort_of_base (item_or element_bases (primitive_element b) base.Int)) ≡ t
    → fits p (type_of_value p heap v) (primitives b) ≡ true → MayBeArray p heap e t v
primitive_may p heap e b t v works number fit = by (of_reference p heap (primitives b) v (record { dimensions = 0; element = _; is = refl }) fit)
  where
    by : (v ≡ Null) ⊎ IsObjectOf p heap (primitives b) v → MayBeArray p heap e t v
    by (inl null) = inl null
    by (inr q) =
        let c : ℕ = (item_or heap q.object no_object).class in
        let a = primitive_array p c b q.fit in
        inr (record {
          object = q.object;
          is = q.is;
          there = q.there;
          class = works c (primitive_class p c b a);
          array = a.array;
          cells = primitive_cells p c b a ∙ number;
        })

-- what is no array of references
abbrev pub is_primitive : Element → Bool
is_primitive References = false
is_primitive _ = true

abbrev pub element_type : Element → VerType
element_type Longs = is.Long
element_type _ = is.Int

pub may_be : (p : Program) (heap : List Object) (e : Element) (v : Value) → is_primitive e ≡ true → meets p (arrays_of p e) (type_of_value p heap v) ≡ true → MayBeArray p heap e (element_type e) v
may_be p heap Ints v k met = primitive_may p heap Ints base.Int is.Int v (λ c same. (Decides-eqb c (array_class p 1 5)).1 same) refl met
may_be p heap Longs v k met = primitive_may p heap Longs base.Long is.Long v (λ c same. (Decides-eqb c (array_class p 1 6)).1 same) refl met
may_be p heap Chars v k met = primitive_may p heap Chars base.Char is.Int v (λ c same. (Decides-eqb c (array_class p 1 2)).1 same) refl met
may_be p heap Shorts v k met = primitive_may p heap Shorts base.Short is.Int v (λ c same. (Decides-eqb c (array_class p 1 7)).1 same) refl met
may_be p heap Bytes v k met =
    elim (either (fits p (type_of_value p heap v) (primitives base.Byte)) (fits p (type_of_value p heap v) (primitives base.Bool) || false) met) [
      | inl byte ↦ primitive_may p heap Bytes base.Byte is.Int v
          (λ c same. or_first (c == array_class p 1 1) (c == array_class p 1 0) ((Decides-eqb c (array_class p 1 1)).1 same)) refl byte
      | inr other ↦ elim (either (fits p (type_of_value p heap v) (primitives base.Bool)) false other) [
        | inl bool ↦ primitive_may p heap Bytes base.Bool is.Int v
            (λ c same. or_second (c == array_class p 1 1) (c == array_class p 1 0) ((Decides-eqb c (array_class p 1 0)).1 same)) refl bool
        | inr none ↦ absurd cc
      ]
    ]
may_be p heap References v k met = absurd cc

-- ---- an array one of whose cells changes

pub changed_array : (p : Program) → IsRanked p → (heap later : List Object) → IsLaterHeap heap later → (o : Object) (i : ℕ) (w : Value) → is_array p o.class ≡ true → IsTypedObject p heap o
    → fits p (type_of_value p heap w) (cell_type p o.class) ≡ true → IsTypedObject p later (record o { cells = slice_set (o.cells) i w })
changed_array p ranked heap later grows o i w array typed fit = record {
  size = λ a. typed.size array ∙ sym (length-set o.cells i w);
  cells = λ a k less. by k less (is_or_not k i);
  fields = λ plain f less has. not_both (is_array p o.class) array plain;
}
  where
    size : length (slice_set o.cells i w) ≡ length o.cells
    size = length-set o.cells i w

    by : (k : ℕ) → k < length (slice_set o.cells i w) → (k ≡ i) ⊎ (¬ (k ≡ i)) → fits p (type_of_value p later (item_or (slice_set o.cells i w) k Top)) (cell_type p o.class) ≡ true
    by k less (inl same) =
        let within : i < length o.cells = omega (arith, less, same, size) in
        subst (λ (v : Value). fits p (type_of_value p later v) (cell_type p o.class) ≡ true)
        (sym (ap (λ n. item_or (slice_set o.cells i w) n Top) same ∙ item_set_here o.cells i w Top within))
        (still p ranked heap later grows w (cell_type p o.class) fit)
    by k less (inr other) =
        subst (λ (v : Value). fits p (type_of_value p later v) (cell_type p o.class) ≡ true) (sym (item_set_elsewhere o.cells i k w Top other))
        (still p ranked heap later grows (item_or o.cells k Top) (cell_type p o.class) (typed.cells array k (omega (arith, less, size))))

module _ (typings : Typings) (h : Here) (site : AtSite typings h) where
  ranked : IsRanked h.program
  ranked = site.sound.hierarchy.ranked

  abbrev heap : List Object
  heap = h.state.heap

  -- ---- tests that hold

  checked : (b c : Bool) (x y : Outcome) → b ≡ true → c ≡ true → Typed typings h x → Typed typings h (when (b && c) x y)
  checked b c x y one other typed = subst (λ t. Typed typings h (when t x y)) (sym (both b c one other)) typed

  null_pointer : Typed typings h (raise h "java/lang/NullPointerException")
  null_pointer = raises typings h site "java/lang/NullPointerException" None refl

  -- room for a value of a width on operands of these types
  pub room_for : (width : ℕ) (t : VerType) (under : List Value) (rest : List VerType) → flow.width t ≡ width → Some (types_in h under) ≡ Some rest
      → LeadsTo typings h (behind h ∷ []) (types_with h (t ∷ rest)) → has_room h width under ≡ true
  room_for width t under rest is same leads =
      let size = size_within h.program heap under in
      let all : flow.stack_size (types_in h under) ≡ flow.stack_size rest = ap (λ (ts : List VerType). flow.stack_size ts) (some_same same) in
      let room : flow.width t + flow.stack_size rest ≤ h.code.max_stack = leads.room in
      le-leb (width + stack_size under) h.code.max_stack (omega (arith, size, all, room, is))

  -- an index within an array is one of a cell
  pub index_within : (i : ℤ) (o : Object) → IsTypedObject h.program heap o → is_array h.program o.class ≡ true → is_within i o.size ≡ true → natural i < length o.cells
  index_within (pos n) o typed array within = let less = ltb-true n o.size within in let same = typed.size array in omega (arith, less, same)
  index_within (negsuc n) o typed array within = absurd cc

  pub at_index_typed : (r : ℕ) (i : ℤ) (rest : Outcome) → (is_within i (object_at h.state r).size ≡ true → Typed typings h rest) → Typed typings h (at_index h r i rest)
  at_index_typed r i rest each = by (is_within i (object_at h.state r).size) refl
    where
      by : (b : Bool) → is_within i (object_at h.state r).size ≡ b
          → Typed typings h (when b rest (raise_with h "java/lang/ArrayIndexOutOfBoundsException" (signed_decimal i)))
      by true within = each within
      by false past = raises typings h site "java/lang/ArrayIndexOutOfBoundsException" (Some (signed_decimal i)) refl

  -- ---- loads

  abbrev loading : Element → ℤ → Value → List Value → Outcome
  loading e i a under =
      when (is_object h (is_array_of h.program e) a && has_room h (width_of_sort (element_sort e)) under)
      (non_null h a (λ r. at_index h r i (go h (cell_at h.state r (natural i) ∷ under))))
      (illegal h)

  pub loaded : (e : Element) (t : VerType) (i : ℤ) (a : Value) (under : List Value) (rest : List VerType) → MayBeArray h.program heap e t a → has_room h (width_of_sort (element_sort e)) under ≡ true
      → Some (types_in h under) ≡ Some rest → LeadsTo typings h (behind h ∷ []) (types_with h (t ∷ rest)) → Typed typings h (loading e i a under)
  loaded e t i a under rest (inl null) room same leads =
      subst (λ (v : Value). Typed typings h (loading e i v under)) (sym null)
      (checked true (has_room h (width_of_sort (element_sort e)) under) _ _ refl room null_pointer)
  loaded e t i a under rest (inr q) room same leads =
      subst (λ (v : Value). Typed typings h (loading e i v under)) (sym q.is)
      (checked (is_array_of h.program e (object_at h.state q.object).class) (has_room h (width_of_sort (element_sort e)) under) _ _ q.class room
      (at_index_typed q.object i _ (λ within.
      let o : Object = object_at h.state q.object in
      let typed = site.state.heap.objects q.object q.there in
      goes_fitting typings h site (cell_at h.state q.object (natural i) ∷ under) (t ∷ rest)
      (list_fits h.program (type_of_value h.program heap (cell_at h.state q.object (natural i))) t (types_in h under) rest
      (subst (λ (u : VerType). fits h.program (type_of_value h.program heap (cell_at h.state q.object (natural i))) u ≡ true) q.cells
      (typed.cells q.array (natural i) (index_within i o typed q.array within)))
      (subst (λ (ts : List VerType). all_fit h.program (types_in h under) ts ≡ true) (some_same same) (all_itself h.program ranked (types_in h under)))) leads)))

  -- what loads of primitives take
  pub load_typed : (e : Element) → is_primitive e ≡ true → (operands : List Value) (rest : List VerType) → taken h.program (int ∷ arrays_of h.program e ∷ []) (types_in h operands) ≡ Some rest
      → LeadsTo typings h (behind h ∷ []) (types_with h (element_type e ∷ rest)) → Typed typings h (load_element h e operands)
  load_typed e k operands rest taken leads =
      int_on_top h.program heap (λ ops. Typed typings h (load_element h e ops)) (arrays_of h.program e ∷ []) operands rest taken
      (λ i under below. on_top h.program heap (λ ops. Typed typings h (load_element h e (Int i ∷ ops))) (arrays_of h.program e) [] under rest below
      (λ a values met same. loaded e (element_type e) i a values rest (may_be h.program heap e a k met) (room_for (width_of_sort (element_sort e)) (element_type e) values rest (width_is e k) same leads) same leads))
    where
      width_is : (x : Element) → is_primitive x ≡ true → flow.width (element_type x) ≡ width_of_sort (element_sort x)
      width_is Longs l = refl
      width_is References l = absurd cc
      width_is _ l = refl

  -- ---- the length

  pub length_typed : (operands : List Value) (rest : List VerType) → taken h.program (any_array h.program ∷ []) (types_in h operands) ≡ Some rest
      → LeadsTo typings h (behind h ∷ []) (types_with h (is.Int ∷ rest)) → Typed typings h (array_length h operands)
  length_typed operands rest taken leads =
      on_top h.program heap (λ ops. Typed typings h (array_length h ops)) (any_array h.program) [] operands rest taken (λ a under met same. by a under same (may a met))
    where
      measuring : Value → List Value → Outcome
      measuring a under = when (is_object h (is_array h.program) a && has_room h 1 under) (non_null h a (λ r. go h (Int (pos (object_at h.state r).size) ∷ under))) (illegal h)

      may : (a : Value) → meets h.program (any_array h.program) (type_of_value h.program heap a) ≡ true → (a ≡ Null) ⊎ ((r : ℕ) × (a ≡ Ref r) × (is_array h.program (object_at h.state r).class ≡ true))
      may Null met = inl refl
      may (Ref r) met = of_test (nat_lt r (length heap)) met
        where
          of_test : (b : Bool) → list_any (fits h.program (if b then type_of_class h.program (object_at h.state r).class else is.Top)) (references h.program ∷ map primitives element_bases) ≡ true
              → (Ref r ≡ Null) ⊎ ((n : ℕ) × (Ref r ≡ Ref n) × (is_array h.program (object_at h.state n).class ≡ true))
          of_test true m = inr (r, refl, array_wanted h.program (object_at h.state r).class m)
          of_test false m = absurd cc
      may _ met = absurd cc

      by : (a : Value) (under : List Value) → Some (types_in h under) ≡ Some rest → (a ≡ Null) ⊎ ((r : ℕ) × (a ≡ Ref r) × (is_array h.program (object_at h.state r).class ≡ true)) → Typed typings h (measuring a under)
      by a under same (inl null) =
          subst (λ (v : Value). Typed typings h (measuring v under)) (sym null) (checked true (has_room h 1 under) _ _ refl (room_for 1 is.Int under rest refl same leads) null_pointer)
      by a under same (inr (r, same_value, array)) =
          subst (λ (v : Value). Typed typings h (measuring v under)) (sym same_value)
          (checked (is_array h.program (object_at h.state r).class) (has_room h 1 under) _ _ array (room_for 1 is.Int under rest refl same leads)
          (goes_fitting typings h site (Int (pos (object_at h.state r).size) ∷ under) (is.Int ∷ rest)
          (list_fits h.program is.Int is.Int (types_in h under) rest refl
          (subst (λ (ts : List VerType). all_fit h.program (types_in h under) ts ≡ true) (some_same same) (all_itself h.program ranked (types_in h under)))) leads))
