-- The types of classes: of array classes, of the components of arrays, of the array classes over a class, and of the classes that names say.
use Rattle.std.proofs.Common.{Bool, None, Option, Some, ap, arith, false, refl, sym, true, List, ℕ, ◌%◌, ◌*◌, ◌+◌, ◌-◌, ◌/◌, ◌<◌, ◌∙◌, ◌≡◌, ◌≤◌}
use Rattle.std.proofs.lemmas.Bool.{leb-true, ltb-false, ltb-true}
use Rattle.std.proofs.lemmas.Bool.Decides.{Decides-eqb, nat_tests}
use Rattle.std.specs.Prelude.{if◌then◌else◌, nat_le, nat_lt, option_and_then, option_map, ◌==◌, ◌||◌}
use Rattle.vx_pool.specs.Lookups.{is_array as is_array_text}
use Rattle.vx_desc.specs.Descriptors.{field_type}
use Rattle.vx_desc.specs.declared.java_type.Base.{Base}
use Rattle.vx_desc.specs.declared.java_type.Base.TheVariants as base
use Rattle.vx_desc.specs.declared.java_type.JavaType.{JavaType}
use Rattle.vx_java.specs.Arrays.{element_bases}
use Rattle.vx_link.specs.ClassNames.{array_class, array_over, class_element, class_named, class_of_base, class_of_name, class_of_type, component_of, dimensions_of, element_of, element_of_base, has_reference_components, is_array}
use Rattle.vx_link.specs.Parts.{class_count}
use Rattle.vx_link.specs.Signature.{class_in}
use Rattle.vx_link.specs.declared.program.Program.{Program}
use Rattle.vx_list.specs.Places.{item_or}
use Rattle.vx_sound.proofs.ClassNumbers.{array_is, array_there, class_below, dimensions_there, element_below, element_there, named_below, plain_class, some_dimensions}
use Rattle.vx_sound.proofs.Values.{none_some, some_same}
use Rattle.vx_sound.specs.Values.{array_type, type_of_class}
use Rattle.vx_types.proofs.Tests.{both_first, both_second}
use Rattle.vx_types.specs.Types.{arrays_over, class_type, element_found, element_named, element_of_class, ref_of_array, ref_of_base}
use Rattle.vx_types.specs.declared.types.ElementType.TheVariants as element
use Rattle.vx_types.specs.declared.types.VerType.{VerType}
use Rattle.vx_types.specs.declared.types.VerType.TheVariants as is
use Rattle.vx_verify.proofs.Following.{not_below}

-- ---- arrays

pub plain_type : (p : Program) (c : ℕ) → is_array p c ≡ false → type_of_class p c ≡ class_type p c
plain_type p c plain = ap (λ b. if b then array_type p (dimensions_of p c) (element_of p c) else class_type p c) plain

pub array_type_is : (p : Program) (c : ℕ) → is_array p c ≡ true → type_of_class p c ≡ array_type p (dimensions_of p c) (element_of p c)
array_type_is p c array = ap (λ b. if b then array_type p (dimensions_of p c) (element_of p c) else class_type p c) array

-- the array class of dimensions and an element
pub type_there : (p : Program) (d e : ℕ) → 1 ≤ d → e < class_count p + 8 → type_of_class p (array_class p d e) ≡ array_type p d e
type_there p d e some below =
    array_type_is p (array_class p d e) (array_there p d e some below)
    ∙ ap (λ k. array_type p k (element_of p (array_class p d e))) (dimensions_there p d e some below)
    ∙ ap (array_type p d) (element_there p d e some below)

pub primitives_type : (p : Program) (d e : ℕ) → nat_lt e 8 ≡ true → array_type p d e ≡ is.Ref (d - 1) (element.Primitives (item_or element_bases e base.Int))
primitives_type p d e low = ap (λ b. if b then is.Ref (d - 1) (element.Primitives (item_or element_bases e base.Int)) else is.Ref d (element_of_class p (e - 8))) low

pub references_type : (p : Program) (d e : ℕ) → nat_lt e 8 ≡ false → array_type p d e ≡ is.Ref d (element_of_class p (e - 8))
references_type p d e high = ap (λ b. if b then is.Ref (d - 1) (element.Primitives (item_or element_bases e base.Int)) else is.Ref d (element_of_class p (e - 8))) high

-- ---- dimensions more

abbrev pub raised : ℕ → VerType → VerType
raised more (is.Ref d e) = is.Ref (d + more) e
raised more t = t

one_more_type : (p : Program) (d e : ℕ) → 1 ≤ d → raised 1 (array_type p d e) ≡ array_type p (d + 1) e
one_more_type p d e some = by (nat_lt e 8) refl
  where
    by : (b : Bool) → nat_lt e 8 ≡ b → raised 1 (array_type p d e) ≡ array_type p (d + 1) e
    by true low =
        let same : d - 1 + 1 ≡ d + 1 - 1 = omega (arith, some) in
        ap (raised 1) (primitives_type p d e low) ∙ ap (λ k. is.Ref k (element.Primitives (item_or element_bases e base.Int))) same ∙ sym (primitives_type p (d + 1) e low)
    by false high = ap (raised 1) (references_type p d e high) ∙ sym (references_type p (d + 1) e high)

over_class : (p : Program) (c e : ℕ) → c < class_count p → e ≡ 8 + c → type_of_class p (array_class p 1 e) ≡ is.Ref 1 (element_of_class p c)
over_class p c e less same =
    let back : e - 8 ≡ c = omega (arith, same) in
    type_there p 1 e (omega arith) (omega (arith, less, same))
    ∙ references_type p 1 e (not_below e 8 (omega (arith, same)))
    ∙ ap (λ k. is.Ref 1 (element_of_class p k)) back

-- the type of the arrays of a class has one dimension more
pub over_type : (p : Program) (c : ℕ) → type_of_class p (array_over p c) ≡ raised 1 (type_of_class p c)
over_type p c = by (is_array p c) refl
  where
    by : (b : Bool) → is_array p c ≡ b → type_of_class p (array_over p c) ≡ raised 1 (type_of_class p c)
    by true array =
        let some = some_dimensions p c array in
        type_there p (dimensions_of p c + 1) (element_of p c) (omega arith) (element_below p c array)
        ∙ sym (one_more_type p (dimensions_of p c) (element_of p c) some)
        ∙ ap (raised 1) (sym (array_type_is p c array))
    by false plain =
        let none : dimensions_of p c + 1 ≡ 1 = ap (λ b. (if b then (c - class_count p) / (class_count p + 8) + 1 else 0) + 1) plain in
        let own : element_of p c ≡ 8 + c = ap (λ b. if b then (c - class_count p) % (class_count p + 8) else class_element c) plain in
        ap (λ k. type_of_class p (array_class p k (element_of p c))) none
        ∙ over_class p c (element_of p c) (class_below p c plain) own
        ∙ ap (raised 1) (sym (plain_type p c plain))

-- ---- components

-- the type of the components of an array of references has one dimension less
pub component_type : (p : Program) (c : ℕ) → has_reference_components p c ≡ true → raised 1 (type_of_class p (component_of p c)) ≡ type_of_class p c
component_type p c has = by (nat_lt 1 (dimensions_of p c)) refl (both_second (is_array p c) (nat_lt 1 (dimensions_of p c) || nat_le 8 (element_of p c)) has)
  where
    d : ℕ
    d = dimensions_of p c

    e : ℕ
    e = element_of p c

    array : is_array p c ≡ true
    array = both_first (is_array p c) (nat_lt 1 d || nat_le 8 e) has

    below : e < class_count p + 8
    below = element_below p c array

    less : (n k : ℕ) → 1 < k → n + (k - 1) * (n + 8) + e - (n + 8) ≡ n + (k - 1 - 1) * (n + 8) + e
    less n k many =
        let one : k - 1 ≡ (k - 1 - 1) + 1 = omega (arith, many) in
        let next : (k - 1 - 1 + 1) * (n + 8) ≡ (k - 1 - 1) * (n + 8) + (n + 8) = omega arith in
        ap (λ q. n + q * (n + 8) + e - (n + 8)) one ∙ omega (arith, next)

    by : (b : Bool) → nat_lt 1 d ≡ b → (b || nat_le 8 e) ≡ true → raised 1 (type_of_class p (component_of p c)) ≡ type_of_class p c
    by true many high =
        let more = ltb-true 1 d many in
        let part : component_of p c ≡ c - (class_count p + 8) = ap (λ b. if b then c - (class_count p + 8) else element_of p c - 8) many in
        let place : c - (class_count p + 8) ≡ array_class p (d - 1) e =
        ap (λ k. k - (class_count p + 8)) (array_is p c array) ∙ less (class_count p) d more in
        let again : d - 1 + 1 ≡ d = omega (arith, more) in
        ap (λ k. raised 1 (type_of_class p k)) (part ∙ place)
        ∙ ap (raised 1) (type_there p (d - 1) e (omega (arith, more)) below)
        ∙ one_more_type p (d - 1) e (omega (arith, more))
        ∙ ap (λ k. array_type p k e) again
        ∙ sym (array_type_is p c array)
    by false few high =
        let some = some_dimensions p c array in
        let most = ltb-false 1 d few in
        let one : d ≡ 1 = omega (arith, some, most) in
        let past = leb-true 8 e high in
        let part : component_of p c ≡ e - 8 = ap (λ b. if b then c - (class_count p + 8) else element_of p c - 8) few in
        ap (λ k. raised 1 (type_of_class p k)) part
        ∙ ap (raised 1) (plain_type p (e - 8) (plain_class p (e - 8) (omega (arith, past, below))))
        ∙ sym (references_type p 1 e (not_below e 8 past))
        ∙ ap (λ k. array_type p k e) (sym one)
        ∙ sym (array_type_is p c array)

-- ---- names

primitive_case : (p : Program) (more d e c : ℕ) (b : Base) → 1 ≤ d → nat_lt e 8 ≡ true → item_or element_bases e base.Int ≡ b → Some (array_class p d e) ≡ Some c
    → is.Ref (d - 1 + more) (element.Primitives b) ≡ raised more (type_of_class p c)
primitive_case p more d e c b some low named found =
    let below = ltb-true e 8 low in
    ap (λ (x : Base). is.Ref (d - 1 + more) (element.Primitives x)) (sym named)
    ∙ ap (raised more) (sym (primitives_type p d e low))
    ∙ ap (raised more) (sym (type_there p d e some (omega (arith, below))))
    ∙ ap (λ k. raised more (type_of_class p k)) (some_same found)

-- the type that a type of a descriptor says is that of its class
pub base_type : (p : Program) (more : ℕ) (descriptor : List ℕ) (t : JavaType) (c : ℕ) → class_of_type p descriptor t ≡ Some c → ref_of_base p more descriptor t t.base ≡ raised more (type_of_class p c)
base_type p more descriptor t c found = by (t.dimensions == 0) refl t.base found
  where
    name : List ℕ
    name = class_in descriptor t

    plain_case : (k : ℕ) → t.dimensions ≡ 0 → class_of_name p name ≡ Some k → is.Ref (t.dimensions + more) (element_named p name) ≡ raised more (type_of_class p k)
    plain_case k none e =
        ap (λ d. is.Ref (d + more) (element_named p name)) none
        ∙ ap (λ (o : Option ℕ). is.Ref (0 + more) (element_found p name o)) e
        ∙ ap (raised more) (sym (plain_type p k (plain_class p k (named_below p name k e))))

    over_case : (o : Option ℕ) → 1 ≤ t.dimensions → class_of_name p name ≡ o → option_map (array_class p t.dimensions) (option_map class_element o) ≡ Some c
        → is.Ref (t.dimensions + more) (element_named p name) ≡ raised more (type_of_class p c)
    over_case None some e f = none_some f
    over_case (Some k) some e f =
        let below = named_below p name k e in
        let back : 8 + k - 8 ≡ k = omega arith in
        ap (λ (o : Option ℕ). is.Ref (t.dimensions + more) (element_found p name o)) e
        ∙ ap (λ j. is.Ref (t.dimensions + more) (element_of_class p j)) (sym back)
        ∙ ap (raised more) (sym (references_type p t.dimensions (8 + k) (not_below (8 + k) 8 (omega arith))))
        ∙ ap (raised more) (sym (type_there p t.dimensions (8 + k) some (omega (arith, below))))
        ∙ ap (λ j. raised more (type_of_class p j)) (some_same f)

    some_left : (t.dimensions == 0) ≡ false → 1 ≤ t.dimensions
    some_left other = grind (arith, nat_tests)

    by : (zero : Bool) → (t.dimensions == 0) ≡ zero → (b : Base)
        → (elim zero [ true ↦ class_of_base p descriptor t b | false ↦ option_map (array_class p t.dimensions) (element_of_base p descriptor t b) ]) ≡ Some c
        → ref_of_base p more descriptor t b ≡ raised more (type_of_class p c)
    by true z base.Class f = plain_case c ((Decides-eqb t.dimensions 0).0 z) f
    by true z _ f = none_some f
    by false z base.Class f = over_case (class_of_name p name) (some_left z) refl f
    by false z base.Bool f = primitive_case p more t.dimensions 0 c base.Bool (some_left z) refl refl f
    by false z base.Byte f = primitive_case p more t.dimensions 1 c base.Byte (some_left z) refl refl f
    by false z base.Char f = primitive_case p more t.dimensions 2 c base.Char (some_left z) refl refl f
    by false z base.Double f = primitive_case p more t.dimensions 3 c base.Double (some_left z) refl refl f
    by false z base.Float f = primitive_case p more t.dimensions 4 c base.Float (some_left z) refl refl f
    by false z base.Int f = primitive_case p more t.dimensions 5 c base.Int (some_left z) refl refl f
    by false z base.Long f = primitive_case p more t.dimensions 6 c base.Long (some_left z) refl refl f
    by false z base.Short f = primitive_case p more t.dimensions 7 c base.Short (some_left z) refl refl f

-- so is the type that the name of a class or the descriptor of an array says
pub named_type : (p : Program) (more : ℕ) (name : List ℕ) (c : ℕ) → class_named p name ≡ Some c → arrays_over p more name ≡ raised more (type_of_class p c)
named_type p more name c found = by (is_array_text name) found
  where
    of_type : (o : Option JavaType) → option_and_then (class_of_type p name) o ≡ Some c → ref_of_array p more name o ≡ raised more (type_of_class p c)
    of_type None f = none_some f
    of_type (Some t) f = base_type p more name t c f

    by : (b : Bool) → (elim b [ true ↦ option_and_then (class_of_type p name) (field_type name) | false ↦ class_of_name p name ]) ≡ Some c
        → (elim b [ true ↦ ref_of_array p more name (field_type name) | false ↦ is.Ref more (element_named p name) ]) ≡ raised more (type_of_class p c)
    by true f = of_type (field_type name) f
    by false f =
        let same : more ≡ 0 + more = omega arith in
        ap (λ d. is.Ref d (element_named p name)) same
        ∙ ap (λ (o : Option ℕ). is.Ref (0 + more) (element_found p name o)) f
        ∙ ap (raised more) (sym (plain_type p c (plain_class p c (named_below p name c f))))
