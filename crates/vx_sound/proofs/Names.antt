-- The types that names and core classes say, and the objects with which the heap begins.
use Rattle.std.proofs.Common.{Bool, List, None, Option, Some, ap, arith, codes, false, length, refl, subst, sym, true, ℕ, ◌+◌, ◌∙◌, ◌≡◌}
use Prim.Native.String.{String}
use Rattle.std.proofs.lemmas.Bool.{lt-ltb}
use Rattle.std.specs.Prelude.{if◌then◌else◌, option_and_then}
use Rattle.vx_pool.specs.Lookups.{is_array as is_array_text}
use Rattle.vx_desc.specs.Descriptors.{field_type}
use Rattle.vx_desc.specs.declared.java_type.JavaType.{JavaType}
use Rattle.vx_java.specs.Ids.{as_class}
use Rattle.vx_java.specs.Machine.{Object, no_object}
use Rattle.vx_link.specs.ClassNames.{class_named, class_of_name, class_of_type, core_class, object_class}
use Rattle.vx_link.specs.declared.program.Program.{Program}
use Rattle.vx_list.specs.Places.{item_or}
use Rattle.vx_sound.proofs.Assigned.{IsCore}
use Rattle.vx_sound.proofs.ClassNumbers.{plain_class}
use Rattle.vx_sound.proofs.ClassTypes.{named_type, plain_type, raised}
use Rattle.vx_sound.proofs.Fields.{base_reference}
use Rattle.vx_sound.proofs.Values.{IsReference, class_reference}
use Rattle.vx_sound.specs.Sound.{IsFirstOf}
use Rattle.vx_sound.specs.Typed.{IsTypedHeap}
use Rattle.vx_sound.specs.Values.{type_of_class, type_of_reference}
use Rattle.vx_types.proofs.FitLaws.{fits_itself}
use Rattle.vx_types.specs.Fits.{fits}
use Rattle.vx_types.specs.Ranked.{IsRanked}
use Rattle.vx_types.specs.Types.{arrays_over, core_type, element_named, ref_of, ref_of_array}
use Rattle.vx_types.specs.declared.types.ElementType.TheVariants as element
use Rattle.vx_types.specs.declared.types.VerType.{VerType}
use Rattle.vx_types.specs.declared.types.VerType.TheVariants as is

-- ---- names

pub raised_none : (t : VerType) → IsReference t → raised 0 t ≡ t
raised_none t q =
    let same : q.dimensions + 0 ≡ q.dimensions = omega arith in
    ap (raised 0) q.is ∙ ap (λ k. is.Ref k q.element) same ∙ sym q.is

-- the type that the name of a class or the descriptor of an array says, where it is there
pub named_here : (p : Program) (name : List ℕ) (c : ℕ) → class_named p name ≡ Some c → ref_of p name ≡ type_of_class p c
named_here p name c found = named_type p 0 name c found ∙ raised_none (type_of_class p c) (class_reference p c)

pub name_reference : (p : Program) (more : ℕ) (name : List ℕ) → IsReference (arrays_over p more name)
name_reference p more name = by (is_array_text name)
  where
    of_type : (o : Option JavaType) → IsReference (ref_of_array p more name o)
    of_type None = record { dimensions = _; element = _; is = refl }
    of_type (Some t) = base_reference p more name t t.base

    by : (b : Bool) → IsReference (elim b [ true ↦ ref_of_array p more name (field_type name) | false ↦ is.Ref more (element_named p name) ])
    by true = of_type (field_type name)
    by false = record { dimensions = _; element = _; is = refl }

-- ---- core classes

pub core_named : (p : Program) (i : Bool) (name : String) → IsCore p i name → is_array_text (codes name) ≡ false → class_named p (codes name) ≡ Some (core_class p name)
core_named p i name core plain =
    ap (λ b. elim b [ true ↦ option_and_then (class_of_type p (codes name)) (field_type (codes name)) | false ↦ class_of_name p (codes name) ]) plain ∙ core.found

pub core_type_is : (p : Program) (i : Bool) (name : String) → IsCore p i name → is_array_text (codes name) ≡ false → core_type p name ≡ type_of_class p (core_class p name)
core_type_is p i name core plain = named_here p (codes name) (core_class p name) (core_named p i name core plain)

-- the type of a core class that is no interface
pub core_class_type : (p : Program) (name : String) → IsCore p false name → type_of_class p (core_class p name) ≡ is.Ref 0 (element.Class (as_class (core_class p name)))
core_class_type p name core =
    plain_type p (core_class p name) (plain_class p (core_class p name) core.within)
    ∙ ap (λ b. is.Ref 0 (element.Class (as_class (if b then object_class p else core_class p name)))) core.is_interface

-- ---- first objects

pub first_fits : (p : Program) → IsRanked p → (heap : List Object) → IsTypedHeap p heap → (r class : ℕ) → IsFirstOf p r class → fits p (type_of_reference p heap r) (type_of_class p class) ≡ true
first_fits p ranked heap typed r class first =
    let enough = typed.enough in
    let below = first.there in
    subst (λ (t : VerType). fits p t (type_of_class p class) ≡ true)
    (sym (
    ap (λ b. if b then type_of_class p (item_or heap r no_object).class else is.Top) (lt-ltb r (length heap) (omega (arith, enough, below)))
    ∙ ap (type_of_class p) (typed.first r first.there ∙ first.class)
    ))
    (fits_itself p ranked (type_of_class p class))
