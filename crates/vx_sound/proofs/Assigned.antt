-- An object that is assignable to a class is of its type.
use Rattle.std.proofs.Common.{Bool, List, None, Option, Some, [], ap, arith, codes, false, inl, inr, refl, subst, suc, sym, true, unwrap_or, zero, ℕ, ◌+◌, ◌<◌, ◌∙◌, ◌∷◌, ◌≡◌, ◌⊎◌}
use Prim.Native.String.{String}
use Rattle.std.proofs.lemmas.Bool.{not-true}
use Rattle.std.proofs.lemmas.Bool.Decides.{Decides-eqb}
use Rattle.std.proofs.lemmas.Slice.Eq.{bytes_eq-Decides}
use Rattle.std.specs.List.{list_all, list_any}
use Rattle.std.specs.Prelude.{bytes_eq, if◌then◌else◌, nat_eq, ◌&&◌, ◌==◌, ◌||◌}
use Rattle.vx_java.specs.Ids.{as_class}
use Rattle.vx_link.specs.Assignability.{above_arrays, assignable, assignable_within, class_assignable}
use Rattle.vx_link.specs.ClassNames.{class_of_name, component_of, core_class, has_reference_components, is_array, object_class}
use Rattle.vx_link.specs.Hierarchy.{chain_within, is_among, superclass_of, superclasses, superinterfaces}
use Rattle.vx_link.specs.Parts.{class_count, is_interface}
use Rattle.vx_link.specs.declared.program.Program.{Program}
use Rattle.vx_sound.proofs.ClassNumbers.{array_no_interface, array_root, class_below, named_below, plain_class}
use Rattle.vx_sound.proofs.ClassTypes.{component_type, plain_type, raised}
use Rattle.vx_sound.proofs.Values.{IsReference, class_reference}
use Rattle.vx_sound.specs.Sound.{HasCore, HasHierarchy, array_interfaces, is_class_there, named_classes}
use Rattle.vx_sound.specs.Values.{type_of_class}
use Rattle.vx_types.proofs.CommonLaws.{object_above, object_is}
use Rattle.vx_types.proofs.FitLaws.{RefFits, fits_itself, ref_from, ref_tells}
use Rattle.vx_types.proofs.Tests.{both_first, both_second, either, not_both, or_first, or_second}
use Rattle.vx_types.specs.Fits.{element_fits, fits, is_object}
use Rattle.vx_types.specs.Types.{element_of_class}
use Rattle.vx_types.specs.declared.types.ElementType.{ElementType}
use Rattle.vx_types.specs.declared.types.ElementType.TheVariants as element
use Rattle.vx_types.specs.declared.types.VerType.{VerType}
use Rattle.vx_types.specs.declared.types.VerType.TheVariants as is
use Rattle.vx_verify.proofs.Putting.{is_or_not}

-- ---- core classes

-- what holds of each of some names holds of one of them
among_all : (test : List ℕ → Bool) (names : List String) (name : String) → list_all (λ n. test (codes n)) names ≡ true
    → list_any (λ n. bytes_eq (codes n) (codes name)) names ≡ true → test (codes name) ≡ true
among_all test [] name all among = absurd cc
among_all test (n ∷ names) name all among =
    by (bytes_eq (codes n) (codes name)) refl (λ later. among_all test names name (both_second (test (codes n)) (list_all (λ n. test (codes n)) names) all) later) among
  where
    by : (b : Bool) → bytes_eq (codes n) (codes name) ≡ b → (list_any (λ n. bytes_eq (codes n) (codes name)) names ≡ true → test (codes name) ≡ true)
        → (b || list_any (λ n. bytes_eq (codes n) (codes name)) names) ≡ true → test (codes name) ≡ true
    by true same later among =
        subst (λ (text : List ℕ). test text ≡ true) ((bytes_eq-Decides (codes n) (codes name)).0 same) (both_first (test (codes n)) (list_all (λ n. test (codes n)) names) all)
    by false other later among = later among

abbrev pub is_named : List String → String → Bool
is_named names name = list_any (λ n. bytes_eq (codes n) (codes name)) names

-- a core class that is there, and is an interface or none
pub record IsCore (p : Program) (interface : Bool) (name : String) : Type 0 where
  pub found : class_of_name p (codes name) ≡ Some (core_class p name)
  pub is_interface : is_interface p (core_class p name) ≡ interface
  pub within : core_class p name < class_count p

core_from : (p : Program) (interface : Bool) (name : String) → is_class_there p interface (class_of_name p (codes name)) ≡ true → IsCore p interface name
core_from p interface name there = by (class_of_name p (codes name)) refl there
  where
    test_is : (i : Bool) (c : ℕ) → is_class_there p i (Some c) ≡ true → is_interface p c ≡ i
    test_is true c t = t
    test_is false c t = not-true (is_interface p c) t

    missing : (i : Bool) → is_class_there p i None ≡ false
    missing true = refl
    missing false = refl

    by : (o : Option ℕ) → class_of_name p (codes name) ≡ o → is_class_there p interface o ≡ true → IsCore p interface name
    by None e t = not_both (is_class_there p interface None) t (missing interface)
    by (Some c) e t =
        let same : core_class p name ≡ c = ap (λ (o : Option ℕ). unwrap_or o 0) e in
        record {
          found = e ∙ ap Some (sym same);
          is_interface = subst (λ k. is_interface p k ≡ interface) (sym same) (test_is interface c t);
          within = subst (λ k. k < class_count p) (sym same) (named_below p (codes name) c e);
        }

pub core_there : (p : Program) → HasCore p → (name : String) → is_named named_classes name ≡ true → IsCore p false name
core_there p core name named =
    core_from p false name (among_all (λ text. is_class_there p false (class_of_name p text)) named_classes name core.classes named)

pub interface_there : (p : Program) → HasCore p → (name : String) → is_named array_interfaces name ≡ true → IsCore p true name
interface_there p core name named =
    core_from p true name (among_all (λ text. is_class_there p true (class_of_name p text)) array_interfaces name core.interfaces named)

-- ---- what each reference may stand for

-- an interface counts as Object
pub interface_plain : (p : Program) (c : ℕ) → is_interface p c ≡ true → is_array p c ≡ false
interface_plain p c interface = by (is_array p c) refl
  where
    by : (b : Bool) → is_array p c ≡ b → b ≡ false
    by true array = not_both (is_interface p c) interface (array_no_interface p c array)
    by false plain = refl

pub object_takes : (p : Program) (t : VerType) → IsReference t → fits p t (is.Ref 0 (element.Class (as_class (object_class p)))) ≡ true
object_takes p t q = subst (λ (u : VerType). fits p u (is.Ref 0 (element.Class (as_class (object_class p)))) ≡ true) (sym q.is) (by q.dimensions q.element)
  where
    by : (d : ℕ) (e : ElementType) → fits p (is.Ref d e) (is.Ref 0 (element.Class (as_class (object_class p)))) ≡ true
    by zero e = ref_from p zero e 0 (element.Class (as_class (object_class p))) (inl (refl, object_above p e))
    by (suc d) e = ref_from p (suc d) e 0 (element.Class (as_class (object_class p))) (inr (omega arith, object_is p))

pub interface_takes : (p : Program) (c : ℕ) → is_interface p c ≡ true → (t : VerType) → IsReference t → fits p t (type_of_class p c) ≡ true
interface_takes p c interface t q =
    subst (λ (u : VerType). fits p t u ≡ true)
    (sym (plain_type p c (interface_plain p c interface) ∙ ap (λ b. is.Ref 0 (element.Class (as_class (if b then object_class p else c)))) interface))
    (object_takes p t q)

root_type : (p : Program) → element_of_class p (object_class p) ≡ element.Class (as_class (object_class p))
root_type p = by (is_interface p (object_class p))
  where
    by : (b : Bool) → element.Class (as_class (if b then object_class p else object_class p)) ≡ element.Class (as_class (object_class p))
    by true = refl
    by false = refl

pub root_takes : (p : Program) → HasHierarchy p → (t : VerType) → IsReference t → fits p t (type_of_class p (object_class p)) ≡ true
root_takes p has t q =
    subst (λ (u : VerType). fits p t u ≡ true)
    (sym (plain_type p (object_class p) (plain_class p (object_class p) has.root) ∙ ap (is.Ref 0) (root_type p)))
    (object_takes p t q)

-- ---- chains

chain_none : (p : Program) (n : ℕ) → chain_within p n None ≡ []
chain_none p zero = refl
chain_none p (suc n) = refl

-- above an array class there is none but itself
chain_alone : (p : Program) (n c d : ℕ) → superclass_of p c ≡ None → is_among d (chain_within p n (Some c)) ≡ true → d ≡ c
chain_alone p zero c d root among = absurd cc
chain_alone p (suc n) c d root among = by (either (nat_eq d c) (is_among d (chain_within p n (superclass_of p c))) among)
  where
    none : is_among d (chain_within p n (superclass_of p c)) ≡ false
    none = ap (λ (o : Option ℕ). is_among d (chain_within p n o)) root ∙ ap (is_among d) (chain_none p n)

    by : (nat_eq d c ≡ true) ⊎ (is_among d (chain_within p n (superclass_of p c)) ≡ true) → d ≡ c
    by (inl same) = (Decides-eqb d c).0 same
    by (inr later) = not_both (is_among d (chain_within p n (superclass_of p c))) later none

-- ---- classes

module _ (p : Program) (has : HasHierarchy p) where
  element_assigned : (c d : ℕ) → is_interface p d ≡ false → is_among d (superclasses p c) ≡ true → element_fits p (element_of_class p c) (element.Class (as_class d)) ≡ true
  element_assigned c d class among = by (is_interface p c) refl
    where
      root : is_interface p c ≡ true → (d ≡ c) ⊎ (¬ (d ≡ c)) → d ≡ object_class p
      root interface (inl same) = not_both (is_interface p d) (subst (λ k. is_interface p k ≡ true) (sym same) interface) class
      root interface (inr other) = has.roots c d interface among other

      by : (b : Bool) → is_interface p c ≡ b → element_fits p (element.Class (as_class (if b then object_class p else c))) (element.Class (as_class d)) ≡ true
      by true interface =
          or_first (is_object p (element.Class (as_class d))) (is_among d (superclasses p (object_class p))) ((Decides-eqb d (object_class p)).1 (root interface (is_or_not d c)))
      by false plain = or_second (is_object p (element.Class (as_class d))) (is_among d (superclasses p c)) among

  above_assigned : (c d : ℕ) → is_interface p d ≡ false → is_among d (superclasses p c) ≡ true → fits p (type_of_class p c) (type_of_class p d) ≡ true
  above_assigned c d class among = by (is_array p c) refl
    where
      by : (b : Bool) → is_array p c ≡ b → fits p (type_of_class p c) (type_of_class p d) ≡ true
      by true array =
          subst (λ k. fits p (type_of_class p c) (type_of_class p k) ≡ true) (sym (chain_alone p (class_count p) c d (array_root p c array) among))
          (fits_itself p has.ranked (type_of_class p c))
      by false plain =
          let within = has.within c d (class_below p c plain) among in
          let target : type_of_class p d ≡ is.Ref 0 (element.Class (as_class d)) =
          plain_type p d (plain_class p d within) ∙ ap (λ b. is.Ref 0 (element.Class (as_class (if b then object_class p else d)))) class in
          subst (λ (u : VerType). fits p (type_of_class p c) u ≡ true) (sym target)
          (subst (λ (u : VerType). fits p u (is.Ref 0 (element.Class (as_class d))) ≡ true) (sym (plain_type p c plain)) (element_assigned c d class among))

  pub class_assigned : (c d : ℕ) → class_assignable p c d ≡ true → fits p (type_of_class p c) (type_of_class p d) ≡ true
  class_assigned c d h = by (is_interface p d) refl
    where
      by : (b : Bool) → is_interface p d ≡ b → fits p (type_of_class p c) (type_of_class p d) ≡ true
      by true interface = interface_takes p d interface (type_of_class p c) (class_reference p c)
      by false class = elim (either (is_among d (superclasses p c)) (is_among d (superinterfaces p c)) h) [
        | inl among ↦ above_assigned c d class among
        | inr among ↦ not_both (is_interface p d) (has.interfaces c d among) class
      ]

  -- ---- arrays

  above_array : HasCore p → (c d : ℕ) → is_among d (above_arrays p) ≡ true → fits p (type_of_class p c) (type_of_class p d) ≡ true
  above_array core c d among =
      elim (either (nat_eq d (object_class p)) (nat_eq d (core_class p "java/lang/Cloneable") || (nat_eq d (core_class p "java/io/Serializable") || false)) among) [
        | inl same ↦ at (object_class p) same (root_takes p has (type_of_class p c) (class_reference p c))
        | inr others ↦ elim (either (nat_eq d (core_class p "java/lang/Cloneable")) (nat_eq d (core_class p "java/io/Serializable") || false) others) [
          | inl same ↦ at (core_class p "java/lang/Cloneable") same (implemented "java/lang/Cloneable" refl)
          | inr last ↦ elim (either (nat_eq d (core_class p "java/io/Serializable")) false last) [
            | inl same ↦ at (core_class p "java/io/Serializable") same (implemented "java/io/Serializable" refl)
            | inr none ↦ absurd cc
          ]
        ]
      ]
    where
      at : (k : ℕ) → nat_eq d k ≡ true → fits p (type_of_class p c) (type_of_class p k) ≡ true → fits p (type_of_class p c) (type_of_class p d) ≡ true
      at k same fit = subst (λ j. fits p (type_of_class p c) (type_of_class p j) ≡ true) (sym ((Decides-eqb d k).0 same)) fit

      implemented : (name : String) → is_named array_interfaces name ≡ true → fits p (type_of_class p c) (type_of_class p (core_class p name)) ≡ true
      implemented name named = interface_takes p (core_class p name) (interface_there p core name named).is_interface (type_of_class p c) (class_reference p c)

  -- a dimension more on both sides
  raised_fits : (t u : VerType) → IsReference t → IsReference u → fits p t u ≡ true → fits p (raised 1 t) (raised 1 u) ≡ true
  raised_fits t u q r fit =
      subst (λ (x : VerType). fits p (raised 1 x) (raised 1 u) ≡ true) (sym q.is)
      (subst (λ (y : VerType). fits p (raised 1 (is.Ref q.dimensions q.element)) (raised 1 y) ≡ true) (sym r.is)
      (ref_from p (q.dimensions + 1) q.element (r.dimensions + 1) r.element (more (ref_tells p q.dimensions q.element r.dimensions r.element plain))))
    where
      plain : fits p (is.Ref q.dimensions q.element) (is.Ref r.dimensions r.element) ≡ true
      plain = subst (λ (y : VerType). fits p (is.Ref q.dimensions q.element) y ≡ true) r.is (subst (λ (x : VerType). fits p x u ≡ true) q.is fit)

      more : RefFits p q.dimensions q.element r.dimensions r.element → RefFits p (q.dimensions + 1) q.element (r.dimensions + 1) r.element
      more (inl same) = inl (omega (arith, same.0), same.1)
      more (inr less) = inr (omega (arith, less.0), less.1)

  components_fit : (c d : ℕ) → has_reference_components p c ≡ true → has_reference_components p d ≡ true → fits p (type_of_class p (component_of p c)) (type_of_class p (component_of p d)) ≡ true
      → fits p (type_of_class p c) (type_of_class p d) ≡ true
  components_fit c d one other fit =
      subst (λ (t : VerType). fits p t (type_of_class p d) ≡ true) (component_type p c one)
      (subst (λ (u : VerType). fits p (raised 1 (type_of_class p (component_of p c))) u ≡ true) (component_type p d other)
      (raised_fits (type_of_class p (component_of p c)) (type_of_class p (component_of p d)) (class_reference p (component_of p c)) (class_reference p (component_of p d)) fit))

  assigned_within : HasCore p → (n c d : ℕ) → assignable_within p n c d ≡ true → fits p (type_of_class p c) (type_of_class p d) ≡ true
  assigned_within core zero c d h = class_assigned c d h
  assigned_within core (suc n) c d h = by (is_array p c) (λ a. assigned_within core n (component_of p c) (component_of p d) a) h
    where
      references : Bool
      references = has_reference_components p c && has_reference_components p d

      by_components : (b : Bool) → references ≡ b → (assignable_within p n (component_of p c) (component_of p d) ≡ true → fits p (type_of_class p (component_of p c)) (type_of_class p (component_of p d)) ≡ true)
          → (elim b [ true ↦ assignable_within p n (component_of p c) (component_of p d) | false ↦ (c == d) || is_among d (above_arrays p) ]) ≡ true
          → fits p (type_of_class p c) (type_of_class p d) ≡ true
      by_components true e later h =
          components_fit c d (both_first (has_reference_components p c) (has_reference_components p d) e) (both_second (has_reference_components p c) (has_reference_components p d) e) (later h)
      by_components false e later h = elim (either (c == d) (is_among d (above_arrays p)) h) [
        | inl same ↦ subst (λ k. fits p (type_of_class p c) (type_of_class p k) ≡ true) ((Decides-eqb c d).0 same) (fits_itself p has.ranked (type_of_class p c))
        | inr among ↦ above_array core c d among
      ]

      by : (b : Bool) → (assignable_within p n (component_of p c) (component_of p d) ≡ true → fits p (type_of_class p (component_of p c)) (type_of_class p (component_of p d)) ≡ true)
          → (elim b [
            | false ↦ class_assignable p c d
            | true ↦ elim references [ true ↦ assignable_within p n (component_of p c) (component_of p d) | false ↦ (c == d) || is_among d (above_arrays p) ]
          ]) ≡ true
          → fits p (type_of_class p c) (type_of_class p d) ≡ true
      by true later h = by_components references refl later h
      by false later h = class_assigned c d h

  pub assigned : HasCore p → (c d : ℕ) → assignable p c d ≡ true → fits p (type_of_class p c) (type_of_class p d) ≡ true
  assigned core c d h = assigned_within core 255 c d h
