-- The rows of new arrays, and of loads and stores of references.
use Rattle.std.proofs.Common.{Bool, List, None, Option, Some, [], ap, arith, false, length, refl, subst, suc, sym, true, zero, ℕ, ℤ, ◌%◌, ◌++◌, ◌+◌, ◌-◌, ◌<◌, ◌∙◌, ◌∷◌, ◌≡◌}
use Rattle.std.specs.Prelude.{if◌then◌else◌, nat_lt, replicate, ◌==◌, ◌||◌, codes}
use Rattle.std.proofs.lemmas.Bool.{ltb-true}
use Rattle.std.proofs.lemmas.List.{length-replicate}
use Rattle.vx_desc.specs.declared.java_type.Base.{Base}
use Rattle.vx_desc.specs.declared.java_type.Base.TheVariants as base
use Rattle.vx_java.specs.Arrays.{array_of, element_bases, element_default, elements_of_numbers, new_array}
use Rattle.vx_java.specs.Checks.{if_there, sort_of_base}
use Rattle.vx_java.specs.FirstObjects.{default_of_base}
use Rattle.vx_java.specs.Machine.{Here, Null, Object, Top, Value, length_bound, push_new, raise, unsupported, when}
use Rattle.vx_java.specs.Operation.{float_word}
use Rattle.vx_link.specs.ClassNames.{array_class, array_over, class_element, class_named, component_of, dimensions_of, double_element, element_of, float_element, has_reference_components, int_element, is_array}
use Rattle.vx_link.specs.Parts.{class_count}
use Rattle.vx_link.specs.declared.program.Program.{Program}
use Rattle.vx_list.specs.Places.{item_or}
use Rattle.vx_sound.proofs.Changes.{makes}
use Rattle.vx_sound.proofs.ClassNumbers.{array_there, class_below, element_below}
use Rattle.vx_sound.proofs.ClassTypes.{named_type, over_type, primitives_type, type_there}
use Rattle.vx_sound.proofs.ObjectRows.{taking}
use Rattle.vx_sound.proofs.Sites.{AtSite, LeadsTo, Typed, behind, raises, types_here, types_in, types_with}
use Rattle.vx_sound.proofs.Taken.{int_on_top}
use Rattle.vx_sound.proofs.Values.{class_reference}
use Rattle.vx_sound.specs.Typed.{IsTypedObject, Typings}
use Rattle.vx_sound.specs.Values.{cell_type, type_of_class, type_of_number, type_of_value}
use Rattle.vx_types.proofs.FitLaws.{fits_itself}
use Rattle.vx_types.proofs.Tests.{not_both}
use Rattle.vx_types.specs.Fits.{fits}
use Rattle.vx_types.specs.Flow.{after, taken, targets_by}
use Rattle.vx_types.specs.declared.types.Row.TheVariants.{Takes}
use Rattle.vx_types.specs.Plain.{int}
use Rattle.vx_types.specs.Rows as rows
use Rattle.vx_types.specs.Types.{VerState, arrays_over}
use Rattle.vx_types.specs.declared.types.VerType.{VerType}
use Rattle.vx_types.specs.declared.types.VerType.TheVariants as is
use Rattle.vx_value.specs.Arithmetic.{natural, negative}

-- ---- an array that has just been made

default_typed : (p : Program) (heap : List Object) (b : Base) → fits p (type_of_value p heap (default_of_base b)) (type_of_number (sort_of_base b)) ≡ true
default_typed p heap base.Bool = refl
default_typed p heap base.Byte = refl
default_typed p heap base.Char = refl
default_typed p heap base.Double = refl
default_typed p heap base.Float = refl
default_typed p heap base.Int = refl
default_typed p heap base.Long = refl
default_typed p heap base.Short = refl
default_typed p heap base.Class = refl

element_typed : (p : Program) (heap : List Object) (c : ℕ) → fits p (type_of_value p heap (element_default p c)) (cell_type p c) ≡ true
element_typed p heap c = by (has_reference_components p c)
  where
    b : Base
    b = item_or element_bases (element_of p c) base.Int

    by : (t : Bool) → fits p (type_of_value p heap (if t then Null else default_of_base (item_or element_bases (element_of p c) base.Int)))
        (if t then type_of_class p (component_of p c) else type_of_number (sort_of_base (item_or element_bases (element_of p c) base.Int))) ≡ true
    by true = let q = class_reference p (component_of p c) in subst (λ (u : VerType). fits p is.Null u ≡ true) (sym q.is) refl
    by false = default_typed p heap (item_or element_bases (element_of p c) base.Int)

item_replicate : (n i : ℕ) (v d : Value) → i < n → item_or (replicate n v) i d ≡ v
item_replicate zero i v d less = absurd (omega (arith, less))
item_replicate (suc n) zero v d less = refl
item_replicate (suc n) (suc i) v d less = item_replicate n i v d (omega (arith, less))

pub array_typed : (p : Program) (heap : List Object) (c n : ℕ) → is_array p c ≡ true → IsTypedObject p heap (array_of p c n)
array_typed p heap c n array = record {
  size = λ a. sym (length-replicate n (element_default p c));
  cells = λ a i less. let size : length (replicate n (element_default p c)) ≡ n = length-replicate n (element_default p c) in
      subst (λ (v : Value). fits p (type_of_value p heap v) (cell_type p c) ≡ true) (sym (item_replicate n i (element_default p c) Top (omega (arith, less, size)))) (element_typed p heap c);
  fields = λ plain f less has. not_both (is_array p c) array plain;
}

module _ (typings : Typings) (h : Here) (site : AtSite typings h) where
  abbrev ops : List Value
  ops = h.state.top.operands

  -- ---- one array

  pub array_made : (c : ℕ) (t : VerType) (operands : List Value) (rest : List VerType) → is_array h.program c ≡ true → type_of_class h.program c ≡ t
      → taken h.program (int ∷ []) (types_in h operands) ≡ Some rest → LeadsTo typings h (behind h ∷ []) (types_with h (t ∷ rest)) → Typed typings h (new_array h c operands)
  array_made c t operands rest array is took leads =
      int_on_top h.program h.state.heap (λ os. Typed typings h (new_array h c os)) [] operands rest took (λ n under same. by_sign n under same (negative n))
    where
      by_size : (n : ℤ) (under : List Value) → Some (types_in h under) ≡ Some rest → (b : Bool)
          → Typed typings h (when b (raise h "java/lang/OutOfMemoryError") (push_new h (array_of h.program c (natural n)) under))
      by_size n under same true = raises typings h site "java/lang/OutOfMemoryError" None refl
      by_size n under same false =
          makes typings h site (array_of h.program c (natural n)) under t rest (array_typed h.program (h.state.heap ++ (array_of h.program c (natural n) ∷ [])) c (natural n) array)
          (subst (λ (u : VerType). fits h.program (type_of_class h.program c) u ≡ true) is (fits_itself h.program site.sound.hierarchy.ranked (type_of_class h.program c))) same leads

      by_sign : (n : ℤ) (under : List Value) → Some (types_in h under) ≡ Some rest → (b : Bool)
          → Typed typings h (when b (raise h "java/lang/NegativeArraySizeException")
          (when (nat_lt length_bound (natural n)) (raise h "java/lang/OutOfMemoryError") (push_new h (array_of h.program c (natural n)) under)))
      by_sign n under same true = raises typings h site "java/lang/NegativeArraySizeException" None refl
      by_sign n under same false = by_size n under same (nat_lt length_bound (natural n))

  -- ---- arrays of primitives

  -- what holds of each element that a number names
  each_element : (P : ℕ → Type 0) → P 0 → P 2 → P 4 → P 3 → P 1 → P 7 → P 5 → P 6 → (k : ℕ) → P (item_or elements_of_numbers k int_element)
  each_element P a b c d e f g i zero = a
  each_element P a b c d e f g i (suc zero) = b
  each_element P a b c d e f g i (suc (suc zero)) = c
  each_element P a b c d e f g i (suc (suc (suc zero))) = d
  each_element P a b c d e f g i (suc (suc (suc (suc zero)))) = e
  each_element P a b c d e f g i (suc (suc (suc (suc (suc zero))))) = f
  each_element P a b c d e f g i (suc (suc (suc (suc (suc (suc zero)))))) = g
  each_element P a b c d e f g i (suc (suc (suc (suc (suc (suc (suc zero))))))) = i
  each_element P a b c d e f g i (suc (suc (suc (suc (suc (suc (suc (suc k)))))))) = g

  abbrev base_of : ℕ → Base
  base_of e = item_or element_bases e base.Int

  -- what a new array of an element comes to, by the types
  abbrev OfElement : ℕ → Type 0
  OfElement e =
      (made : VerState) → after h.program (rows.new_primitives_of (base_of e) (sort_of_base (base_of e))) (types_here h) ≡ Some made
      → LeadsTo typings h (targets_by (rows.new_primitives_of (base_of e) (sort_of_base (base_of e))) (behind h ∷ [])) made
      → Typed typings h (when ((e == float_element) || (e == double_element)) (unsupported h float_word (codes "-")) (new_array h (array_class h.program 1 e) ops))

  of_number : (e : ℕ) → nat_lt e 8 ≡ true → (made : VerState) → after h.program (Takes (int ∷ []) (Some (rows.primitives (base_of e)))) (types_here h) ≡ Some made → LeadsTo typings h (behind h ∷ []) made
      → Typed typings h (new_array h (array_class h.program 1 e) ops)
  of_number e low made k on =
      let less = ltb-true e 8 low in
      taking typings h site (int ∷ []) (Some (rows.primitives (base_of e))) made k on (λ rest same to.
      array_made (array_class h.program 1 e) (rows.primitives (base_of e)) ops rest (array_there h.program 1 e (omega arith) (omega (arith, less)))
      (type_there h.program 1 e (omega arith) (omega (arith, less)) ∙ primitives_type h.program 1 e low) same to)

  pub primitives_typed : (number : ℕ) → OfElement (item_or elements_of_numbers (number - 4) int_element)
  primitives_typed number =
      each_element OfElement
      (of_number 0 refl) (of_number 2 refl) (λ made k on. refl) (λ made k on. refl) (of_number 1 refl) (of_number 7 refl) (of_number 5 refl) (of_number 6 refl) (number - 4)

  -- ---- arrays of references

  pub references_typed : (name : List ℕ) (made : VerState) → after h.program (rows.new_references h.program name) (types_here h) ≡ Some made
      → LeadsTo typings h (targets_by (rows.new_references h.program name) (behind h ∷ [])) made
      → Typed typings h (if_there h name (class_named h.program name) (λ c. new_array h (array_over h.program c) ops))
  references_typed name made k on = by (class_named h.program name) refl k on
    where
      over_there : (c : ℕ) → is_array h.program (array_over h.program c) ≡ true
      over_there c = by_array (is_array h.program c) refl
        where
          by_array : (b : Bool) → is_array h.program c ≡ b → is_array h.program (array_over h.program c) ≡ true
          by_array true array = array_there h.program (dimensions_of h.program c + 1) (element_of h.program c) (omega arith) (element_below h.program c array)
          by_array false plain =
              let own : element_of h.program c ≡ class_element c = ap (λ b. if b then (c - class_count h.program) % (class_count h.program + 8) else class_element c) plain in
              let less = class_below h.program c plain in
              array_there h.program (dimensions_of h.program c + 1) (element_of h.program c) (omega arith) (omega (arith, own, less))

      by : (o : Option ℕ) → class_named h.program name ≡ o → after h.program (rows.if_there o (λ c. Takes (int ∷ []) (Some (arrays_over h.program 1 name)))) (types_here h) ≡ Some made
          → LeadsTo typings h (targets_by (rows.if_there o (λ c. Takes (int ∷ []) (Some (arrays_over h.program 1 name)))) (behind h ∷ [])) made
          → Typed typings h (if_there h name o (λ c. new_array h (array_over h.program c) ops))
      by None found k on = refl
      by (Some c) found k on =
          taking typings h site (int ∷ []) (Some (arrays_over h.program 1 name)) made k on (λ rest same to.
          array_made (array_over h.program c) (arrays_over h.program 1 name) ops rest (over_there c) (over_type h.program c ∙ sym (named_type h.program 1 name c found)) same to)
