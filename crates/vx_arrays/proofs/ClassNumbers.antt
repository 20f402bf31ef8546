-- Which numbers the classes have that names name, and the array classes over them.
use Rattle.std.proofs.Common.{◌≡◌, ℕ, ◌+◌, ◌-◌, ◌*◌, ◌<◌, ◌≤◌, ◌^◌, Bool, true, false, List, refl, sym, subst, arith, nat_le, ◌==◌, if◌then◌else◌, mul-le-mul_right}
use Rattle.std.proofs.lemmas.Bool.{leb-true}
use Rattle.std.proofs.lemmas.List.Quantifiers.{position-Some}
use Rattle.std.specs.Prelude.{IfSome, Option, None, Some, bytes_eq, length, option_and_then, option_map, take_while, drop, position, slice_index, take}
use Rattle.vx_pool.specs.Lookups.{is_array as is_array_text}
use Rattle.vx_desc.specs.Descriptors.{base_of, element_at, field_of, field_type, only_if, type_at}
use Rattle.vx_desc.specs.Names.{is_class_name}
use Rattle.vx_desc.specs.declared.java_type.Base.{Base}
use Rattle.vx_desc.specs.declared.java_type.Base.TheVariants.{Byte, Char, Class, Double, Float, Int, Long, Short}
use Rattle.vx_desc.specs.declared.java_type.Base.TheVariants.{Bool as BoolBase}
use Rattle.vx_desc.specs.declared.java_type.Descriptor.{Descriptor}
use Rattle.vx_desc.specs.declared.java_type.JavaType.{JavaType}
use Rattle.vx_java.specs.Ids.{HasClassNumbers, as_class}
use Rattle.vx_references.proofs.ArrayNumbers.{array_over_is}
use Rattle.vx_link.specs.ClassNames.{array_class, array_over, class_named, class_of_base, class_of_name, class_of_type, element_of_base}
use Rattle.vx_link.specs.Parts.{class_count, no_class}
use Rattle.vx_link.specs.Signature.{class_in}
use Rattle.vx_link.specs.declared.program.Program.{Program}
use Rattle.vx_value.specs.declared.ids.ClassId.{ClassId}

-- ---- what a reading gives, where it gives something

if_some : {A : Type 0} (P : A → Type 0) (test : Bool) (x : A) → P x → IfSome (only_if test x) P
if_some P true x h = h
if_some P false x h = tt

then_some : {A B : Type 0} (Q : A → Type 0) (P : B → Type 0) (o : Option A) (f : A → Option B) → IfSome o Q → ((x : A) → Q x → IfSome (f x) P) → IfSome (option_and_then f o) P
then_some Q P None f h next = tt
then_some Q P (Some x) f h next = next x h

map_some : {A B : Type 0} (Q : A → Type 0) (P : B → Type 0) (o : Option A) (f : A → B) → IfSome o Q → ((x : A) → Q x → P (f x)) → IfSome (option_map f o) P
map_some Q P None f h next = tt
map_some Q P (Some x) f h next = next x h

either_some : {A : Type 0} (P : A → Type 0) (test : Bool) (a b : Option A) → IfSome a P → IfSome b P → IfSome (if test then a else b) P
either_some P true a b h k = h
either_some P false a b h k = k

some_is : {A : Type 0} (P : A → Type 0) (o : Option A) (x : A) → o ≡ Some x → IfSome o P → P x
some_is P None x e h = cc e
some_is P (Some y) x e h =
    let same : y ≡ x = cc in
    subst P same h

-- ---- the dimensions of a type that is read

abbrev type_of : Base → (dimensions from end behind : ℕ) → JavaType × ℕ
type_of base d from end behind = (record { base = base; dimensions = d; from = from; end = end }, behind)

abbrev HasDimensions : ℕ → JavaType × ℕ → Type 0
HasDimensions d t = t.0.dimensions ≡ d

class_dimensions : (d at : ℕ) (len : Option ℕ) (ok : ℕ → Bool) → IfSome (option_and_then (λ n. only_if (ok n) (type_of Class d (at + 1) (at + 1 + n) (at + n + 2))) len) (HasDimensions d)
class_dimensions d at None ok = tt
class_dimensions d at (Some n) ok = if_some (HasDimensions d) (ok n) (type_of Class d (at + 1) (at + 1 + n) (at + n + 2)) refl

letter_dimensions : (d at : ℕ) (letter : Option Base) → IfSome (option_and_then (λ base. Some (type_of base d 0 0 (at + 1))) letter) (HasDimensions d)
letter_dimensions d at None = tt
letter_dimensions d at (Some base) = refl

read_dimensions : (d : ℕ) (bytes : List ℕ) (at : ℕ) → IfSome (element_at d bytes at) (HasDimensions d)
unfolding element_at
read_dimensions d bytes at =
    either_some (HasDimensions d) (slice_index bytes at == 76) _ _
    (class_dimensions d at (position (λ b. b == 59) (drop (at + 1) bytes)) (λ n. is_class_name (take n (drop (at + 1) bytes))))
    (letter_dimensions d at (base_of (slice_index bytes at)))

few_dimensions : (bytes : List ℕ) (at : ℕ) → IfSome (type_at bytes at) (λ t. t.0.dimensions ≤ 255)
unfolding type_at
few_dimensions bytes at = cases (nat_le d 255) refl
  where
    d : ℕ
    d = length (take_while (λ b. b == 91) (drop at bytes))

    weaker : (o : Option (JavaType × ℕ)) → d ≤ 255 → IfSome o (HasDimensions d) → IfSome o (λ t. t.0.dimensions ≤ 255)
    weaker None few h = tt
    weaker (Some t) few h = omega (arith, h)

    cases : (b : Bool) → nat_le d 255 ≡ b → IfSome (if b then element_at d bytes (at + d) else None) (λ t. t.0.dimensions ≤ 255)
    cases true e = weaker (element_at d bytes (at + d)) (leb-true d 255 e) (read_dimensions d bytes (at + d))
    cases false e = tt

field_dimensions : (bytes : List ℕ) → IfSome (field_type bytes) (λ t. t.dimensions ≤ 255)
unfolding field_of
field_dimensions bytes =
    let P : JavaType → Type 0 = λ t. t.dimensions ≤ 255 in
    let Q : JavaType × ℕ → Type 0 = λ t. t.0.dimensions ≤ 255 in
    let R : Descriptor → Type 0 = λ d. IfSome d.result P in
    then_some R P (field_of bytes) (λ d. d.result) (then_some Q R (type_at bytes 0) _ (few_dimensions bytes 0) (λ t few. if_some R _ _ few)) (λ d h. h)

-- ---- the class that a name names

place_below : (p : Program) (name : List ℕ) → IfSome (class_of_name p name) (λ c. c < class_count p)
place_below p name = cases (class_of_name p name) refl
  where
    cases : (o : Option ℕ) → class_of_name p name ≡ o → IfSome o (λ c. c < class_count p)
    cases None e = tt
    cases (Some c) e = (position-Some (λ x. bytes_eq x.name name) p.classes c no_class e).0

element_below : (p : Program) (descriptor : List ℕ) (t : JavaType) (base : Base) → IfSome (element_of_base p descriptor t base) (λ e. e < class_count p + 8)
element_below p descriptor t Class = map_some (λ (c : ℕ). c < class_count p) (λ (e : ℕ). e < class_count p + 8) (class_of_name p (class_in descriptor t)) _ (place_below p (class_in descriptor t)) (λ c h. omega (arith, h))
element_below p descriptor t BoolBase = omega arith
element_below p descriptor t Byte = omega arith
element_below p descriptor t Char = omega arith
element_below p descriptor t Double = omega arith
element_below p descriptor t Float = omega arith
element_below p descriptor t Int = omega arith
element_below p descriptor t Long = omega arith
element_below p descriptor t Short = omega arith

class_below : (n d e : ℕ) → d ≤ 255 → e < n + 8 → n + (d - 1) * (n + 8) + e < n + 255 * (n + 8) + 0
class_below n d e few below =
    let most : (d - 1) * (n + 8) ≤ 254 * (n + 8) = mul-le-mul_right (n + 8) (omega (arith, few)) in
    omega (arith, most, below)

type_below : (p : Program) (descriptor : List ℕ) (t : JavaType) → t.dimensions ≤ 255 → IfSome (class_of_type p descriptor t) (λ c. c < array_class p 256 0)
type_below p descriptor t few = cases (t.dimensions == 0) t.base
  where
    plain : (base : Base) → IfSome (class_of_base p descriptor t base) (λ c. c < array_class p 256 0)
    plain Class = map_place (class_of_name p (class_in descriptor t)) (place_below p (class_in descriptor t))
      where
        map_place : (o : Option ℕ) → IfSome o (λ c. c < class_count p) → IfSome o (λ c. c < array_class p 256 0)
        map_place None h = tt
        map_place (Some c) h = omega (arith, h)
    plain BoolBase = tt
    plain Byte = tt
    plain Char = tt
    plain Double = tt
    plain Float = tt
    plain Int = tt
    plain Long = tt
    plain Short = tt

    cases : (b : Bool) (base : Base) → IfSome (elim b [ true ↦ class_of_base p descriptor t base | false ↦ option_map (array_class p t.dimensions) (element_of_base p descriptor t base) ]) (λ c. c < array_class p 256 0)
    cases true base = plain base
    cases false base = map_some (λ (e : ℕ). e < class_count p + 8) (λ (c : ℕ). c < array_class p 256 0) (element_of_base p descriptor t base) (array_class p t.dimensions) (element_below p descriptor t base) (λ e h. class_below (class_count p) t.dimensions e few h)

named_below : (p : Program) (name : List ℕ) → IfSome (class_named p name) (λ c. c < array_class p 256 0)
named_below p name = cases (is_array_text name)
  where
    wider : (o : Option ℕ) → IfSome o (λ c. c < class_count p) → IfSome o (λ c. c < array_class p 256 0)
    wider None h = tt
    wider (Some c) h = omega (arith, h)

    cases : (b : Bool) → IfSome (elim b [ true ↦ option_and_then (class_of_type p name) (field_type name) | false ↦ class_of_name p name ]) (λ c. c < array_class p 256 0)
    cases true = then_some (λ (t : JavaType). t.dimensions ≤ 255) (λ (c : ℕ). c < array_class p 256 0) (field_type name) (class_of_type p name) (field_dimensions name) (λ t few. type_below p name t few)
    cases false = wider (class_of_name p name) (place_below p name)

-- a class that a name names has at most 255 dimensions
pub found_below : (p : Program) (name : List ℕ) (class : ClassId) → Some class ≡ option_map as_class (class_named p name) → class.0 < array_class p 256 0
found_below p name class e = some_is (λ (c : ClassId). c.0 < array_class p 256 0) (option_map as_class (class_named p name)) class (sym e) (map_some (λ (c : ℕ). c < array_class p 256 0) (λ (c : ClassId). c.0 < array_class p 256 0) (class_named p name) as_class (named_below p name) (λ c h. h))

-- ---- the array classes over a class

-- the class of arrays over a class that a name names has a number
pub array_over_below : (p : Program) (c : ℕ) → HasClassNumbers p → c < array_class p 256 0 → array_over p c < 2 ^ 32
array_over_below p c h below = rw (array_over_is p c) (omega (arith, h, below))
