-- The class that the descriptor of an array names has as many dimensions as the descriptor.
use Rattle.std.proofs.Common.{Bool, List, None, Option, Some, [], ap, arith, drop, false, length, refl, subst, sym, true, ℕ, ◌+◌, ◌<◌, ◌∙◌, ◌∷◌, ◌≡◌, ◌≤◌}
use Rattle.std.proofs.lemmas.Bool.Decides.{Decides-eqb}
use Rattle.std.proofs.lemmas.List.Sums.{take_while-cons}
use Rattle.std.specs.Prelude.{if◌then◌else◌, nat_le, option_and_then, option_map, position, slice_index, take, take_while, ◌==◌}
use Rattle.vx_pool.specs.Instructions.{dimensions}
use Rattle.vx_pool.specs.Lookups.{is_array as is_array_text}
use Rattle.vx_desc.specs.Descriptors.{base_of, element_at, field_of, field_type, only_if, type_at}
use Rattle.vx_desc.specs.Names.{is_class_name}
use Rattle.vx_desc.specs.declared.java_type.Base.{Base}
use Rattle.vx_desc.specs.declared.java_type.Base.TheVariants as base
use Rattle.vx_desc.specs.declared.java_type.Descriptor.{Descriptor}
use Rattle.vx_desc.specs.declared.java_type.JavaType.{JavaType}
use Rattle.vx_link.specs.ClassNames.{array_class, class_named, class_of_base, class_of_name, class_of_type, dimensions_of, element_of_base, is_array}
use Rattle.vx_link.specs.Parts.{class_count}
use Rattle.vx_link.specs.Signature.{class_in}
use Rattle.vx_link.specs.declared.program.Program.{Program}
use Rattle.vx_sound.proofs.ClassNumbers.{array_there, dimensions_there, named_below}
use Rattle.vx_sound.proofs.Values.{none_some, some_same}

-- ---- the dimensions of a type that is read

-- what a step gives, where it gives something
given : {A B : Type 0} (P : B → Type 0) (o : Option A) (f : A → Option B) (y : B) → option_and_then f o ≡ Some y → ((x : A) → o ≡ Some x → f x ≡ Some y → P y) → P y
given P None f y e each = none_some e
given P (Some x) f y e each = each x refl e

only_given : {A : Type 0} (P : A → Type 0) (test : Bool) (x y : A) → only_if test x ≡ Some y → P x → P y
only_given P true x y e h = subst P (some_same e) h
only_given P false x y e h = none_some e

abbrev HasDimensions : ℕ → JavaType × ℕ → Type 0
HasDimensions d t = t.0.dimensions ≡ d

element_dimensions : (d : ℕ) (bytes : List ℕ) (at : ℕ) (t : JavaType × ℕ) → element_at d bytes at ≡ Some t → HasDimensions d t
unfolding element_at
element_dimensions d bytes at t = by (slice_index bytes at == 76)
  where
    by : (b : Bool)
        → (if b
        then option_and_then (λ len. only_if (is_class_name (take len (drop (at + 1) bytes))) (record { base = base.Class; dimensions = d; from = at + 1; end = at + 1 + len }, at + len + 2)) (position (λ b. b == 59) (drop (at + 1) bytes))
        else option_and_then (λ letter. Some (record { base = letter; dimensions = d; from = 0; end = 0 }, at + 1)) (base_of (slice_index bytes at))) ≡ Some t → HasDimensions d t
    by true e = given (HasDimensions d) (position (λ b. b == 59) (drop (at + 1) bytes)) _ t e (λ len found k. only_given (HasDimensions d) (is_class_name (take len (drop (at + 1) bytes))) _ t k refl)
    by false e = given (HasDimensions d) (base_of (slice_index bytes at)) _ t e (λ letter found k. subst (HasDimensions d) (some_same k) refl)

type_dimensions : (bytes : List ℕ) (t : JavaType × ℕ) → type_at bytes 0 ≡ Some t → HasDimensions (dimensions bytes) t
unfolding type_at
type_dimensions bytes t = by (nat_le (dimensions bytes) 255)
  where
    by : (b : Bool) → (if b then element_at (dimensions bytes) bytes (0 + dimensions bytes) else None) ≡ Some t → HasDimensions (dimensions bytes) t
    by true e = element_dimensions (dimensions bytes) bytes (0 + dimensions bytes) t e
    by false e = none_some e

field_dimensions : (bytes : List ℕ) (t : JavaType) → field_type bytes ≡ Some t → t.dimensions ≡ dimensions bytes
unfolding field_of
field_dimensions bytes t e =
    given (λ (t : JavaType). t.dimensions ≡ dimensions bytes) (field_of bytes) (λ d. d.result) t e (λ d read result.
    of_result d result
    (given (λ (d : Descriptor). (u : JavaType) → d.result ≡ Some u → u.dimensions ≡ dimensions bytes) (type_at bytes 0) _ d read (λ t found k.
    only_given (λ (d : Descriptor). (u : JavaType) → d.result ≡ Some u → u.dimensions ≡ dimensions bytes) (t.1 == length bytes) _ d k
    (λ u same. subst (λ (x : JavaType). x.dimensions ≡ dimensions bytes) (some_same same) (type_dimensions bytes t found)))))
  where
    of_result : (d : Descriptor) → d.result ≡ Some t → ((u : JavaType) → d.result ≡ Some u → u.dimensions ≡ dimensions bytes) → t.dimensions ≡ dimensions bytes
    of_result d result each = each t result

-- ---- the class of a name

-- a name with a dimension is the descriptor of an array
array_name : (name : List ℕ) → 1 ≤ dimensions name → is_array_text name ≡ true
array_name [] some = absurd (omega (arith, some))
array_name (b ∷ name) some = by (b == 91) (subst (λ (xs : List ℕ). 1 ≤ length xs) (take_while-cons (λ b. b == 91) b name) some)
  where
    by : (t : Bool) → 1 ≤ length (if t then b ∷ take_while (λ b. b == 91) name else []) → t ≡ true
    by true some = refl
    by false some = absurd (omega (arith, some))

element_below : (p : Program) (descriptor : List ℕ) (t : JavaType) (b : Base) (e : ℕ) → element_of_base p descriptor t b ≡ Some e → e < class_count p + 8
element_below p descriptor t base.Class e is = by (class_of_name p (class_in descriptor t)) refl is
  where
    by : (o : Option ℕ) → class_of_name p (class_in descriptor t) ≡ o → option_map (λ (c : ℕ). 8 + c) o ≡ Some e → e < class_count p + 8
    by None found k = none_some k
    by (Some c) found k = let below = named_below p (class_in descriptor t) c found in let same = some_same k in omega (arith, below, same)
element_below p descriptor t base.Bool e is = let same = some_same is in omega (arith, same)
element_below p descriptor t base.Byte e is = let same = some_same is in omega (arith, same)
element_below p descriptor t base.Char e is = let same = some_same is in omega (arith, same)
element_below p descriptor t base.Double e is = let same = some_same is in omega (arith, same)
element_below p descriptor t base.Float e is = let same = some_same is in omega (arith, same)
element_below p descriptor t base.Int e is = let same = some_same is in omega (arith, same)
element_below p descriptor t base.Long e is = let same = some_same is in omega (arith, same)
element_below p descriptor t base.Short e is = let same = some_same is in omega (arith, same)

-- an array of so many dimensions
pub record IsArrayOf (p : Program) (c d : ℕ) : Type 0 where
  pub array : is_array p c ≡ true
  pub dimensions : dimensions_of p c ≡ d

of_type : (p : Program) (name : List ℕ) (t : JavaType) (c : ℕ) → 1 ≤ t.dimensions → class_of_type p name t ≡ Some c → IsArrayOf p c t.dimensions
of_type p name t c some = by (t.dimensions == 0) refl
  where
    of_element : (o : Option ℕ) → element_of_base p name t t.base ≡ o → option_map (array_class p t.dimensions) o ≡ Some c → IsArrayOf p c t.dimensions
    of_element None found k = none_some k
    of_element (Some e) found k =
        let below = element_below p name t t.base e found in
        subst (λ k. IsArrayOf p k t.dimensions) (some_same k)
        (record { array = array_there p t.dimensions e some below; dimensions = dimensions_there p t.dimensions e some below })

    by : (b : Bool) → (t.dimensions == 0) ≡ b
        → (elim b [ true ↦ class_of_base p name t t.base | false ↦ option_map (array_class p t.dimensions) (element_of_base p name t t.base) ]) ≡ Some c → IsArrayOf p c t.dimensions
    by true none k = let zero_there = (Decides-eqb t.dimensions 0).0 none in absurd (omega (arith, some, zero_there))
    by false other k = of_element (element_of_base p name t t.base) refl k

-- the class of a name with dimensions
pub named_array : (p : Program) (name : List ℕ) (c : ℕ) → 1 ≤ dimensions name → class_named p name ≡ Some c → IsArrayOf p c (dimensions name)
named_array p name c some found = by (field_type name) refl (text found)
  where
    text : class_named p name ≡ Some c → option_and_then (class_of_type p name) (field_type name) ≡ Some c
    text e = ap (λ b. elim b [ true ↦ option_and_then (class_of_type p name) (field_type name) | false ↦ class_of_name p name ]) (sym (array_name name some)) ∙ e

    by : (o : Option JavaType) → field_type name ≡ o → option_and_then (class_of_type p name) o ≡ Some c → IsArrayOf p c (dimensions name)
    by None read k = none_some k
    by (Some t) read k =
        let same = field_dimensions name t read in
        subst (λ d. IsArrayOf p c d) same (of_type p name t c (omega (arith, some, same)) k)
