-- An object whose type fits a class may stand where that class is wanted.
use Rattle.std.proofs.Common.{Bool, ap, arith, false, inl, inr, refl, subst, suc, sym, true, zero, ℕ, ◌+◌, ◌-◌, ◌∙◌, ◌≡◌, ◌≤◌}
use Rattle.std.proofs.lemmas.Bool.{ltb-true, lt-ltb}
use Rattle.std.proofs.lemmas.Bool.Decides.{Decides-eqb}
use Rattle.std.specs.Prelude.{if◌then◌else◌, nat_le, nat_lt, not, ◌&&◌, ◌/◌, ◌==◌, ◌||◌}
use Rattle.vx_desc.specs.declared.java_type.Base.{Base}
use Rattle.vx_desc.specs.declared.java_type.Base.TheVariants as base
use Rattle.vx_java.specs.Arrays.{element_bases}
use Rattle.vx_java.specs.Checks.{is_instance_of}
use Rattle.vx_java.specs.Ids.{as_class}
use Rattle.vx_java.specs.Machine.{Here, Null, Ref, Value, object_at}
use Rattle.vx_link.specs.Assignability.{above_arrays, assignable, assignable_within, class_assignable}
use Rattle.vx_link.specs.ClassNames.{class_element, component_of, dimensions_of, element_of, has_reference_components, is_array, object_class}
use Rattle.vx_link.specs.Hierarchy.{is_among, superclasses, superinterfaces}
use Rattle.vx_link.specs.Parts.{class_count, is_interface}
use Rattle.vx_link.specs.declared.program.Program.{Program}
use Rattle.vx_list.specs.Places.{item_or}
use Rattle.vx_sound.proofs.Values.{object_there}
use Rattle.vx_sound.specs.Sound.{HasHierarchy}
use Rattle.vx_sound.specs.Values.{array_type, type_of_class, type_of_value}
use Rattle.vx_types.proofs.FitLaws.{RefFits, ref_tells}
use Rattle.vx_types.proofs.Tests.{either, or_first, or_second}
use Rattle.vx_types.specs.Fits.{fits, is_below, is_object}
use Rattle.vx_types.specs.Types.{class_type, element_of_class}
use Rattle.vx_types.specs.declared.types.ElementType.TheVariants as element
use Rattle.vx_types.specs.declared.types.VerType.{VerType}
use Rattle.vx_types.specs.declared.types.VerType.TheVariants as is

-- ---- what may stand where a class is wanted

plain_assignable : (p : Program) (n c d : ℕ) → is_array p c ≡ false → class_assignable p c d ≡ true → assignable_within p n c d ≡ true
plain_assignable p zero c d plain h = h
plain_assignable p (suc n) c d plain h =
    ap (λ b. elim b [
      | false ↦ class_assignable p c d
      | true ↦ elim (has_reference_components p c && has_reference_components p d) [
        | true ↦ assignable_within p n (component_of p c) (component_of p d)
        | false ↦ (c == d) || is_among d (above_arrays p)
      ]
    ]) plain ∙ h

both_false : (b c : Bool) → c ≡ false → (b && c) ≡ false
both_false true c h = h
both_false false c h = refl

-- Object is no array
root_plain : (p : Program) → HasHierarchy p → is_array p (object_class p) ≡ false
root_plain p h = ap not (lt-ltb (object_class p) (class_count p) h.root)

array_assignable : (p : Program) → HasHierarchy p → (n c : ℕ) → is_array p c ≡ true → assignable_within p (suc n) c (object_class p) ≡ true
array_assignable p h n c array =
    let o = object_class p in
    let no_parts : (has_reference_components p c && has_reference_components p o) ≡ false =
    both_false (has_reference_components p c) (has_reference_components p o)
    (ap (λ b. b && (nat_lt 1 (dimensions_of p o) || nat_le (class_element 0) (element_of p o))) (root_plain p h)) in
    ap (λ b. elim b [
      | false ↦ class_assignable p c o
      | true ↦ elim (has_reference_components p c && has_reference_components p o) [
        | true ↦ assignable_within p n (component_of p c) (component_of p o)
        | false ↦ (c == o) || is_among o (above_arrays p)
      ]
    ]) array
    ∙ ap (λ b. elim b [
      | true ↦ assignable_within p n (component_of p c) (component_of p o)
      | false ↦ (c == o) || is_among o (above_arrays p)
    ]) no_parts
    ∙ or_second (c == o) (is_among o (above_arrays p)) (or_first (o == o) _ ((Decides-eqb o o).1 refl))

-- ---- types of classes

-- an array fits no class but Object
array_fits : (p : Program) (k e d : ℕ) → 1 ≤ k → fits p (array_type p k e) (is.Ref 0 (element.Class (as_class d))) ≡ true → d ≡ object_class p
array_fits p k e d some = by (nat_lt e (class_element 0))
  where
    b : Base
    b = item_or element_bases e base.Int

    root : is_object p (element.Class (as_class d)) ≡ true → d ≡ object_class p
    root h = (Decides-eqb d (object_class p)).0 h

    primitive : RefFits p (k - 1) (element.Primitives b) 0 (element.Class (as_class d)) → d ≡ object_class p
    primitive (inl same) = elim (either (is_object p (element.Class (as_class d))) (is_below p (element.Primitives b) (element.Class (as_class d))) same.1) [ inl o ↦ root o | inr n ↦ absurd cc ]
    primitive (inr less) = root less.1

    of_references : RefFits p k (element_of_class p (e - class_element 0)) 0 (element.Class (as_class d)) → d ≡ object_class p
    of_references (inl same) = let zero_there = same.0 in absurd (omega (arith, some, zero_there))
    of_references (inr less) = root less.1

    by : (t : Bool) → fits p (if t then is.Ref (k - 1) (element.Primitives b) else is.Ref k (element_of_class p (e - class_element 0))) (is.Ref 0 (element.Class (as_class d))) ≡ true → d ≡ object_class p
    by true h = primitive (ref_tells p (k - 1) (element.Primitives b) 0 (element.Class (as_class d)) h)
    by false h = of_references (ref_tells p k (element_of_class p (e - class_element 0)) 0 (element.Class (as_class d)) h)

array_dimensions : (p : Program) (c : ℕ) → is_array p c ≡ true → 1 ≤ dimensions_of p c
array_dimensions p c array =
    let is : dimensions_of p c ≡ (c - class_count p) / (class_count p + 8) + 1 = ap (λ b. if b then (c - class_count p) / (class_count p + 8) + 1 else 0) array in
    omega (arith, is)

-- a class fits its superclasses and Object
pub among_above : (p : Program) → HasHierarchy p → (c d : ℕ) → is_array p c ≡ false → fits p (class_type p c) (is.Ref 0 (element.Class (as_class d))) ≡ true → is_among d (superclasses p c) ≡ true
among_above p h c d plain = by (is_interface p c)
  where
    within : nat_lt c (class_count p) ≡ true
    within = by_within (nat_lt c (class_count p)) plain
      where
        by_within : (b : Bool) → not b ≡ false → b ≡ true
        by_within true k = refl
        by_within false k = absurd cc

    root_above : d ≡ object_class p → is_among d (superclasses p c) ≡ true
    root_above same = subst (λ n. is_among n (superclasses p c) ≡ true) (sym same) (h.object c (ltb-true c (class_count p) within))

    of_element : (a : ℕ) → (is_among d (superclasses p a) ≡ true → is_among d (superclasses p c) ≡ true) → RefFits p 0 (element.Class (as_class a)) 0 (element.Class (as_class d)) → is_among d (superclasses p c) ≡ true
    of_element a up (inl same) = elim (either (is_object p (element.Class (as_class d))) (is_among d (superclasses p a)) same.1) [
      | inl o ↦ root_above ((Decides-eqb d (object_class p)).0 o)
      | inr above ↦ up above
    ]
    of_element a up (inr less) = root_above ((Decides-eqb d (object_class p)).0 less.1)

    by : (b : Bool) → fits p (is.Ref 0 (element.Class (as_class (if b then object_class p else c)))) (is.Ref 0 (element.Class (as_class d))) ≡ true → is_among d (superclasses p c) ≡ true
    by true k =
        of_element (object_class p) (λ above. root_above (h.ranked.object d above)) (ref_tells p 0 (element.Class (as_class (object_class p))) 0 (element.Class (as_class d)) k)
    by false k = of_element c (λ above. above) (ref_tells p 0 (element.Class (as_class c)) 0 (element.Class (as_class d)) k)

-- what an array fits that is a class is Object
pub array_root_fits : (p : Program) (c d : ℕ) → is_array p c ≡ true → fits p (type_of_class p c) (is.Ref 0 (element.Class (as_class d))) ≡ true → d ≡ object_class p
array_root_fits p c d array fit =
    array_fits p (dimensions_of p c) (element_of p c) d (array_dimensions p c array)
    (subst (λ (t : VerType). fits p t (is.Ref 0 (element.Class (as_class d))) ≡ true) (ap (λ b. if b then array_type p (dimensions_of p c) (element_of p c) else class_type p c) array) fit)

pub class_there : (p : Program) → HasHierarchy p → (c d : ℕ) → fits p (type_of_class p c) (is.Ref 0 (element.Class (as_class d))) ≡ true → assignable p c d ≡ true
class_there p h c d = by (is_array p c) refl
  where
    by : (b : Bool) → is_array p c ≡ b
        → fits p (if b then array_type p (dimensions_of p c) (element_of p c) else class_type p c) (is.Ref 0 (element.Class (as_class d))) ≡ true → assignable p c d ≡ true
    by true array k =
        subst (λ n. assignable p c n ≡ true) (sym (array_fits p (dimensions_of p c) (element_of p c) d (array_dimensions p c array) k)) (array_assignable p h 254 c array)
    by false plain k =
        plain_assignable p 255 c d plain (or_first (is_among d (superclasses p c)) (is_among d (superinterfaces p c)) (among_above p h c d plain k))

-- ---- values

-- a value of the type of a class is null or an object of it
pub instance_there : (h : Here) → HasHierarchy h.program → (d : ℕ) (v : Value) → fits h.program (type_of_value h.program h.state.heap v) (is.Ref 0 (element.Class (as_class d))) ≡ true
    → is_instance_of h d v ≡ true
instance_there h has d Null k = refl
instance_there h has d (Ref r) k =
    let there = object_there h.program h.state.heap r (is.Ref 0 (element.Class (as_class d))) k refl in
    class_there h.program has (object_at h.state r).class d
    (subst (λ (t : VerType). fits h.program t (is.Ref 0 (element.Class (as_class d))) ≡ true)
    (ap (λ b. if b then type_of_class h.program (object_at h.state r).class else is.Top) there) k)
instance_there h has d _ k = absurd cc
