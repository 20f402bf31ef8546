-- Objects that have just been made are of their types: of a class, an exception with its message and cause.
use Rattle.std.proofs.Common.{Bool, List, None, Option, Some, [], ap, arith, codes, false, get_or, inl, inr, length, refl, subst, suc, sym, true, unwrap_or, zero, ℕ, ◌++◌, ◌<◌, ◌∙◌, ◌≡◌, ◌⊎◌}
use Prim.Native.String.{String}
use Rattle.std.proofs.lemmas.List.Quantifiers.{position-Some}
use Rattle.std.proofs.lemmas.Slice.Eq.{bytes_eq-Decides}
use Rattle.std.specs.Prelude.{bytes_eq, filter, map, not, option_and_then, option_map, slice_set, ◌==◌}
use Rattle.vx_desc.specs.Descriptors.{field_type}
use Rattle.vx_desc.specs.declared.java_type.Base.{Base}
use Rattle.vx_desc.specs.declared.java_type.Base.TheVariants as base
use Rattle.vx_desc.specs.declared.java_type.JavaType.{JavaType}
use Rattle.vx_java.specs.Checks.{sort_of_base}
use Rattle.vx_java.specs.FirstObjects.{cells_of_chain, default_of_base, default_of_field, field_default, new_cells, new_object, own_cells}
use Rattle.vx_java.specs.Ids.{as_class}
use Rattle.vx_java.specs.Machine.{Null, Object, Top, Value}
use Rattle.vx_java.specs.Throwing.{throwable}
use Rattle.vx_java.specs.declared.operation.Sort.TheVariants as sort
use Rattle.vx_kept_facts.specs.Kept.{is_throwable}
use Rattle.vx_link.specs.ClassNames.{core_class, is_array}
use Rattle.vx_link.specs.Hierarchy.{chain_within, is_among, superclasses}
use Rattle.vx_link.specs.Parts.{class_count, field_at, is_static_field, no_class}
use Rattle.vx_link.specs.declared.program.LinkedClass.{LinkedClass}
use Rattle.vx_link.specs.declared.program.Program.{Program}
use Rattle.vx_list.specs.Places.{item_or}
use Rattle.vx_sound.proofs.Assigned.{IsCore, assigned, core_there}
use Rattle.vx_sound.proofs.ClassNumbers.{array_is_no_class, array_root}
use Rattle.vx_sound.proofs.ClassTypes.{plain_type}
use Rattle.vx_sound.proofs.Classes.{among_above, array_root_fits}
use Rattle.vx_sound.proofs.Fields.{base_reference, set_view}
use Rattle.vx_sound.proofs.Names.{core_class_type}
use Rattle.vx_sound.specs.Sound.{IsSound}
use Rattle.vx_sound.specs.Typed.{IsTypedObject, has_field}
use Rattle.vx_sound.specs.Values.{type_of_class, type_of_field, type_of_value}
use Rattle.vx_types.proofs.Tests.{not_both}
use Rattle.vx_types.specs.Fits.{fits}
use Rattle.vx_types.specs.Types.{class_type, ref_of_base, type_of, type_of_sort}
use Rattle.vx_types.specs.declared.types.ElementType.TheVariants as element
use Rattle.vx_types.specs.declared.types.VerType.{VerType}
use Rattle.vx_types.specs.declared.types.VerType.TheVariants as is

-- ---- defaults

-- a field begins with a value of its type
pub default_fits : (p : Program) (heap : List Object) (f : ℕ) → fits p (type_of_value p heap (field_default (field_at p f))) (type_of_field p f) ≡ true
default_fits p heap f = by (field_type (field_at p f).descriptor)
  where
    d : List ℕ
    d = (field_at p f).descriptor

    null_fits : (t : JavaType) → fits p is.Null (ref_of_base p 0 (field_at p f).descriptor t t.base) ≡ true
    null_fits t = let q = base_reference p 0 (field_at p f).descriptor t t.base in subst (λ (u : VerType). fits p is.Null u ≡ true) (sym q.is) refl

    by_base : (t : JavaType) (b : Base) → fits p (type_of_value p heap (default_of_base b)) (unwrap_or (option_map (type_of_sort p (field_at p f).descriptor t) (sort_of_base b)) is.Top) ≡ true
    by_base t base.Class = null_fits t
    by_base t base.Double = refl
    by_base t base.Float = refl
    by_base t base.Long = refl
    by_base t _ = refl

    by_dimensions : (t : JavaType) (zero : Bool)
        → fits p (type_of_value p heap (elim zero [ true ↦ default_of_base t.base | false ↦ Null ]))
        (unwrap_or (option_map (type_of_sort p (field_at p f).descriptor t) (elim zero [ true ↦ sort_of_base t.base | false ↦ Some sort.Reference ])) is.Top) ≡ true
    by_dimensions t true = by_base t t.base
    by_dimensions t false = null_fits t

    by : (o : Option JavaType) → fits p (type_of_value p heap (default_of_field o)) (unwrap_or (option_and_then (type_of p (field_at p f).descriptor) o) is.Top) ≡ true
    by None = refl
    by (Some t) = by_dimensions t (t.dimensions == 0)

-- ---- a new object

own_nothing : (p : Program) (c : ℕ) → is_array p c ≡ true → own_cells p c ≡ []
own_nothing p c array =
    ap (λ (x : LinkedClass). map (λ f. field_default (field_at p f)) (filter (λ f. not (is_static_field p f)) (map (λ f. f.0) x.fields))) (array_is_no_class p c array)

-- an array class has no cells of its own, and none above it has
no_cells : (p : Program) (n c : ℕ) → is_array p c ≡ true → cells_of_chain p (chain_within p n (Some c)) ≡ []
no_cells p zero c array = refl
no_cells p (suc n) c array =
    ap (λ (o : Option ℕ). cells_of_chain p (chain_within p n o) ++ own_cells p c) (array_root p c array)
    ∙ ap (λ (xs : List Value). xs ++ own_cells p c) (none n)
    ∙ own_nothing p c array
  where
    none : (k : ℕ) → cells_of_chain p (chain_within p k None) ≡ []
    none zero = refl
    none (suc k) = refl

pub object_made : (p : Program) → IsSound p → (heap : List Object) (c : ℕ) → IsTypedObject p heap (new_object p c)
object_made p sound heap c = record {
  size = λ array. sym (ap (λ (xs : List Value). length xs) (no_cells p (class_count p) c array));
  cells = λ array i less. absurd (let none = ap (λ (xs : List Value). length xs) (no_cells p (class_count p) c array) in omega (arith, less, none));
  fields = λ plain f within has.
      subst (λ (v : Value). fits p (type_of_value p heap v) (type_of_field p f) ≡ true) (sym (sound.cells.defaults c f within has)) (default_fits p heap f);
}

-- ---- exceptions

module _ (p : Program) (sound : IsSound p) where
  -- two core classes of different names
  pub apart : (one other : String) → IsCore p false one → IsCore p false other → (codes one ≡ codes other → ⊥) → core_class p one ≡ core_class p other → ⊥
  apart one other first second differ same =
      let x = (position-Some (λ c. bytes_eq c.name (codes one)) p.classes (core_class p one) no_class first.found).1 in
      let y = (position-Some (λ c. bytes_eq c.name (codes other)) p.classes (core_class p other) no_class second.found).1 in
      differ (sym ((bytes_eq-Decides _ (codes one)).0 x) ∙ ap (λ k. (get_or p.classes k no_class).name) same ∙ (bytes_eq-Decides _ (codes other)).0 y)

  abbrev root_throwable : ℕ
  root_throwable = core_class p "java/lang/Throwable"

  throwable_core : IsCore p false "java/lang/Throwable"
  throwable_core = core_there p sound.core "java/lang/Throwable" refl

  root_apart : core_class p "java/lang/Throwable" ≡ core_class p "java/lang/Object" → ⊥
  root_apart same = apart "java/lang/Throwable" "java/lang/Object" throwable_core (core_there p sound.core "java/lang/Object" refl) differ same
    where
      differ : codes "java/lang/Throwable" ≡ codes "java/lang/Object" → ⊥
      differ e = let sizes : 19 ≡ 16 = ap (λ (xs : List ℕ). length xs) e in absurd (omega (arith, sizes))

  pub throwable_fits : (c : ℕ) → is_throwable p c ≡ true → fits p (type_of_class p c) (is.Ref 0 (element.Class (as_class (core_class p "java/lang/Throwable")))) ≡ true
  throwable_fits c is =
      subst (λ (t : VerType). fits p (type_of_class p c) t ≡ true) (core_class_type p "java/lang/Throwable" throwable_core)
      (assigned p sound.hierarchy sound.core c (core_class p "java/lang/Throwable") is)

  -- what is Throwable is no array, and has Throwable above it
  pub throwable_plain : (c : ℕ) → is_throwable p c ≡ true → is_array p c ≡ false
  throwable_plain c is = by (is_array p c) refl
    where
      by : (b : Bool) → is_array p c ≡ b → b ≡ false
      by true array = absurd (root_apart (array_root_fits p c (core_class p "java/lang/Throwable") array (throwable_fits c is)))
      by false plain = refl

  throwable_above : (c : ℕ) → is_throwable p c ≡ true → is_among (core_class p "java/lang/Throwable") (superclasses p c) ≡ true
  throwable_above c throws =
      let plain = throwable_plain c throws in
      among_above p sound.hierarchy c (core_class p "java/lang/Throwable") plain
      (subst (λ (t : VerType). fits p t (is.Ref 0 (element.Class (as_class (core_class p "java/lang/Throwable")))) ≡ true) (plain_type p c plain) (throwable_fits c throws))

  pub exception_made : (heap : List Object) (c : ℕ) (message cause : Value) → is_throwable p c ≡ true
      → fits p (type_of_value p heap message) (class_type p (core_class p "java/lang/String")) ≡ true
      → fits p (type_of_value p heap cause) (class_type p (core_class p "java/lang/Throwable")) ≡ true → IsTypedObject p heap (throwable p c message cause)
  exception_made heap c message cause is of_message of_cause = record {
    size = λ array. not_both (is_array p c) array plain;
    cells = λ array i less. not_both (is_array p c) array plain;
    fields = λ a f within has. by_cause f within has (set_view (slice_set (new_cells p c) 0 message) 1 (field_at p f).cell cause Top);
  }
    where
      plain : is_array p c ≡ false
      plain = throwable_plain c is

      Fine : ℕ → Value → Type 0
      Fine f v = fits p (type_of_value p heap v) (type_of_field p f) ≡ true

      by_message : (f : ℕ) → f < length p.fields → has_field p c f ≡ true
          → (((field_at p f).cell ≡ 0) × (item_or (slice_set (new_cells p c) 0 message) (field_at p f).cell Top ≡ message))
          ⊎ (item_or (slice_set (new_cells p c) 0 message) (field_at p f).cell Top ≡ item_or (new_cells p c) (field_at p f).cell Top)
          → Fine f (item_or (slice_set (new_cells p c) 0 message) (field_at p f).cell Top)
      by_message f within has (inl q) =
          let own = sound.objects.message in
          let same : f ≡ own.field = sound.cells.own c f own.field within own.within has (own.there c (throwable_above c is)) (q.0 ∙ sym own.cell) in
          subst (λ (v : Value). Fine f v) (sym q.1)
          (subst (λ k. Fine k message) (sym same) (subst (λ (t : VerType). fits p (type_of_value p heap message) t ≡ true) (sym own.type) of_message))
      by_message f within has (inr q) =
          subst (λ (v : Value). Fine f v) (sym (q ∙ sound.cells.defaults c f within has)) (default_fits p heap f)

      by_cause : (f : ℕ) → f < length p.fields → has_field p c f ≡ true
          → (((field_at p f).cell ≡ 1) × (item_or (slice_set (slice_set (new_cells p c) 0 message) 1 cause) (field_at p f).cell Top ≡ cause))
          ⊎ (item_or (slice_set (slice_set (new_cells p c) 0 message) 1 cause) (field_at p f).cell Top ≡ item_or (slice_set (new_cells p c) 0 message) (field_at p f).cell Top)
          → Fine f (item_or (slice_set (slice_set (new_cells p c) 0 message) 1 cause) (field_at p f).cell Top)
      by_cause f within has (inl q) =
          let own = sound.objects.cause in
          let same : f ≡ own.field = sound.cells.own c f own.field within own.within has (own.there c (throwable_above c is)) (q.0 ∙ sym own.cell) in
          subst (λ (v : Value). Fine f v) (sym q.1)
          (subst (λ k. Fine k cause) (sym same) (subst (λ (t : VerType). fits p (type_of_value p heap cause) t ≡ true) (sym own.type) of_cause))
      by_cause f within has (inr q) =
          subst (λ (v : Value). Fine f v) (sym q) (by_message f within has (set_view (new_cells p c) 0 (field_at p f).cell message Top))
