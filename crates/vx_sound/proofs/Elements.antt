-- Array classes by the types that instructions want, and the types of their cells.
use Rattle.std.proofs.Common.{Bool, List, ap, arith, false, inl, inr, length, refl, subst, suc, sym, true, ℕ, ◌+◌, ◌-◌, ◌<◌, ◌∙◌, ◌∷◌, ◌≡◌, ◌≤◌, ◌⊎◌}
use Rattle.std.proofs.lemmas.Bool.{leb-true, le-leb, lt-ltb, ltb-false, ltb-true}
use Rattle.std.proofs.lemmas.Bool.Decides.{Decides-eqb}
use Rattle.std.specs.List.{list_any}
use Rattle.std.specs.Prelude.{if◌then◌else◌, map, nat_le, nat_lt, ◌&&◌, ◌||◌}
use Rattle.vx_desc.specs.declared.java_type.Base.{Base}
use Rattle.vx_desc.specs.declared.java_type.Base.TheVariants as base
use Rattle.vx_java.proofs.OpcodeRanges.{Each, at_each}
use Rattle.vx_java.specs.Arrays.{element_bases}
use Rattle.vx_java.specs.Checks.{sort_of_base}
use Rattle.vx_java.specs.Machine.{Int, Long, Null, Object, Ref, Text, Top, Value, no_object}
use Rattle.vx_link.specs.ClassNames.{array_class, component_of, dimensions_of, element_of, has_reference_components, is_array, primitive_element}
use Rattle.vx_link.specs.declared.program.Program.{Program}
use Rattle.vx_list.specs.Places.{item_or}
use Rattle.vx_sound.proofs.ClassNumbers.{array_is, some_dimensions}
use Rattle.vx_sound.proofs.ClassTypes.{array_type_is, component_type, plain_type, primitives_type, raised, references_type}
use Rattle.vx_sound.proofs.Values.{IsReference, class_reference, object_there}
use Rattle.vx_sound.specs.Values.{cell_type, type_of_class, type_of_number, type_of_value}
use Rattle.vx_types.proofs.FitLaws.{RefFits, ref_tells}
use Rattle.vx_types.proofs.Tests.{both, not_both, or_first, or_second}
use Rattle.vx_types.specs.Fits.{fits}
use Rattle.vx_types.specs.Rows.{primitives, references}
use Rattle.vx_types.specs.Types.{class_type, element_of_class}
use Rattle.vx_types.specs.declared.types.ElementType.{ElementType}
use Rattle.vx_types.specs.declared.types.ElementType.TheVariants as element
use Rattle.vx_types.specs.declared.types.VerType.{VerType}
use Rattle.vx_types.specs.declared.types.VerType.TheVariants as is
use Rattle.vx_verify.specs.Typing.{is_known}

-- ---- values of reference types

known_reference : (u : VerType) → IsReference u → is_known u ≡ true
known_reference u q = subst (λ (x : VerType). is_known x ≡ true) (sym q.is) refl

unlike_reference : {X : Type 0} (p : Program) (t u : VerType) → ((d : ℕ) (e : ElementType) → fits p t (is.Ref d e) ≡ false) → IsReference u → fits p t u ≡ true → X
unlike_reference p t u none q fit =
    not_both (fits p t (is.Ref q.dimensions q.element)) (subst (λ (x : VerType). fits p t x ≡ true) q.is fit) (none q.dimensions q.element)

-- a reference to an object whose class has a type that fits another
pub record IsObjectOf (p : Program) (heap : List Object) (u : VerType) (v : Value) : Type 0 where
  pub object : ℕ
  pub is : v ≡ Ref object
  pub there : object < length heap
  pub fit : fits p (type_of_class p (item_or heap object no_object).class) u ≡ true

-- a value of a type of references is null, or such a reference
pub of_reference : (p : Program) (heap : List Object) (u : VerType) (v : Value) → IsReference u → fits p (type_of_value p heap v) u ≡ true → (v ≡ Null) ⊎ IsObjectOf p heap u v
of_reference p heap u Null q fit = inl refl
of_reference p heap u (Ref r) q fit =
    let there = object_there p heap r u fit (known_reference u q) in
    inr (record {
      object = r;
      is = refl;
      there = ltb-true r (length heap) there;
      fit = subst (λ (t : VerType). fits p t u ≡ true) (ap (λ b. if b then type_of_class p (item_or heap r no_object).class else is.Top) there) fit;
    })
of_reference p heap u Top q fit = unlike_reference p is.Top u (λ d e. refl) q fit
of_reference p heap u (Int n) q fit = unlike_reference p is.Int u (λ d e. refl) q fit
of_reference p heap u (Long n) q fit = unlike_reference p is.Long u (λ d e. refl) q fit
of_reference p heap u (Text units) q fit = unlike_reference p is.Top u (λ d e. refl) q fit

-- ---- arrays of a primitive type

bases_named : (e : ℕ) → nat_lt e 8 ≡ true → primitive_element (item_or element_bases e base.Int) ≡ e
bases_named e low = at_each (λ k. primitive_element (item_or element_bases k base.Int) ≡ k) 0 8 e all (omega arith) (ltb-true e 8 low)
  where
    all : Each (λ k. primitive_element (item_or element_bases k base.Int) ≡ k) 0 8
    all = (refl, (refl, (refl, (refl, (refl, (refl, (refl, (refl, tt))))))))

pub record IsPrimitiveArray (p : Program) (c : ℕ) (b : Base) : Type 0 where
  pub array : is_array p c ≡ true
  pub dimensions : dimensions_of p c ≡ 1
  pub element : element_of p c ≡ primitive_element b
  pub low : nat_lt (element_of p c) 8 ≡ true

pub primitive_array : (p : Program) (c : ℕ) (b : Base) → fits p (type_of_class p c) (is.Ref 0 (element.Primitives b)) ≡ true → IsPrimitiveArray p c b
primitive_array p c b fit = by (is_array p c) refl
  where
    d : ℕ
    d = dimensions_of p c

    e : ℕ
    e = element_of p c

    of_low : is_array p c ≡ true → nat_lt e 8 ≡ true → RefFits p (d - 1) (element.Primitives (item_or element_bases e base.Int)) 0 (element.Primitives b) → IsPrimitiveArray p c b
    of_low array low (inl same) =
        let some = some_dimensions p c array in
        let none = same.0 in
        record {
          array = array;
          dimensions = omega (arith, some, none);
          element = sym (bases_named e low) ∙ (Decides-eqb (primitive_element (item_or element_bases e base.Int)) (primitive_element b)).0 same.1;
          low = low;
        }
    of_low array low (inr less) = let none = less.1 in absurd cc

    of_high : is_array p c ≡ true → RefFits p d (element_of_class p (e - 8)) 0 (element.Primitives b) → IsPrimitiveArray p c b
    of_high array (inl same) = let some = some_dimensions p c array in let none = same.0 in absurd (omega (arith, some, none))
    of_high array (inr less) = let none = less.1 in absurd cc

    by_element : is_array p c ≡ true → (low : Bool) → nat_lt e 8 ≡ low → IsPrimitiveArray p c b
    by_element array true low =
        of_low array low (ref_tells p (d - 1) (element.Primitives (item_or element_bases e base.Int)) 0 (element.Primitives b)
        (subst (λ (t : VerType). fits p t (is.Ref 0 (element.Primitives b)) ≡ true) (array_type_is p c array ∙ primitives_type p d e low) fit))
    by_element array false high =
        of_high array (ref_tells p d (element_of_class p (e - 8)) 0 (element.Primitives b)
        (subst (λ (t : VerType). fits p t (is.Ref 0 (element.Primitives b)) ≡ true) (array_type_is p c array ∙ references_type p d e high) fit))

    by : (a : Bool) → is_array p c ≡ a → IsPrimitiveArray p c b
    by true array = by_element array (nat_lt e 8) refl
    by false plain =
        let k : fits p (class_type p c) (is.Ref 0 (element.Primitives b)) ≡ true = subst (λ (t : VerType). fits p t (is.Ref 0 (element.Primitives b)) ≡ true) (plain_type p c plain) fit in
        absurd cc

-- the class of such an array
pub primitive_class : (p : Program) (c : ℕ) (b : Base) → IsPrimitiveArray p c b → c ≡ array_class p 1 (primitive_element b)
primitive_class p c b q = array_is p c q.array ∙ ap (λ k. array_class p k (element_of p c)) q.dimensions ∙ ap (array_class p 1) q.element

pub no_references : (p : Program) (c : ℕ) → dimensions_of p c ≡ 1 → nat_lt (element_of p c) 8 ≡ true → has_reference_components p c ≡ false
no_references p c one low = by (is_array p c)
  where
    few : nat_le 8 (element_of p c) ≡ false
    few = by_test (nat_le 8 (element_of p c)) refl
      where
        by_test : (b : Bool) → nat_le 8 (element_of p c) ≡ b → b ≡ false
        by_test true h = let less = ltb-true (element_of p c) 8 low in let more = leb-true 8 (element_of p c) h in absurd (omega (arith, less, more))
        by_test false h = refl

    none : (nat_lt 1 (dimensions_of p c) || nat_le 8 (element_of p c)) ≡ false
    none = ap (λ k. nat_lt 1 k || nat_le 8 (element_of p c)) one ∙ few

    by : (b : Bool) → (b && (nat_lt 1 (dimensions_of p c) || nat_le 8 (element_of p c))) ≡ false
    by true = none
    by false = refl

-- and the type of its cells
pub primitive_cells : (p : Program) (c : ℕ) (b : Base) → IsPrimitiveArray p c b → cell_type p c ≡ type_of_number (sort_of_base (item_or element_bases (primitive_element b) base.Int))
primitive_cells p c b q =
    ap (λ t. if t then type_of_class p (component_of p c) else type_of_number (sort_of_base (item_or element_bases (element_of p c) base.Int))) (no_references p c q.dimensions q.low)
    ∙ ap (λ k. type_of_number (sort_of_base (item_or element_bases k base.Int))) q.element

-- ---- arrays of references

abbrev pub dimensions_in : VerType → ℕ
dimensions_in (is.Ref d e) = d
dimensions_in t = 0

abbrev element_in : VerType → ElementType
element_in (is.Ref d e) = e
element_in t = element.Primitives base.Int

-- a class whose type has dimensions is one of arrays of references
pub many_dimensions : (p : Program) (c : ℕ) → 1 ≤ dimensions_in (type_of_class p c) → has_reference_components p c ≡ true
many_dimensions p c some = by (is_array p c) refl
  where
    d : ℕ
    d = dimensions_of p c

    e : ℕ
    e = element_of p c

    has : is_array p c ≡ true → (nat_lt 1 d || nat_le 8 e) ≡ true → has_reference_components p c ≡ true
    has array h = both (is_array p c) (nat_lt 1 d || nat_le 8 e) array h

    by_element : is_array p c ≡ true → (low : Bool) → nat_lt e 8 ≡ low → has_reference_components p c ≡ true
    by_element array true low =
        let same : dimensions_in (type_of_class p c) ≡ d - 1 = ap dimensions_in (array_type_is p c array ∙ primitives_type p d e low) in
        has array (or_first (nat_lt 1 d) (nat_le 8 e) (lt-ltb 1 d (omega (arith, some, same))))
    by_element array false high = has array (or_second (nat_lt 1 d) (nat_le 8 e) (le-leb 8 e (ltb-false e 8 high)))

    by : (a : Bool) → is_array p c ≡ a → has_reference_components p c ≡ true
    by true array = by_element array (nat_lt e 8) refl
    by false plain =
        let none : dimensions_in (type_of_class p c) ≡ 0 = ap dimensions_in (plain_type p c plain) in
        absurd (omega (arith, some, none))

pub reference_array : (p : Program) (c : ℕ) → fits p (type_of_class p c) (references p) ≡ true → has_reference_components p c ≡ true
reference_array p c fit = by (class_reference p c)
  where
    by : IsReference (type_of_class p c) → has_reference_components p c ≡ true
    by q = many_dimensions p c (enough (ref_tells p q.dimensions q.element 1 (element_in (references p)) (subst (λ (t : VerType). fits p t (references p) ≡ true) q.is fit)))
      where
        enough : RefFits p q.dimensions q.element 1 (element_in (references p)) → 1 ≤ dimensions_in (type_of_class p c)
        enough (inl same) = let is = ap dimensions_in q.is in let one = same.0 in omega (arith, is, one)
        enough (inr less) = let is = ap dimensions_in q.is in let more = less.0 in omega (arith, is, more)

-- the type of the components, where the type has a dimension
pub component_is : (p : Program) (c d : ℕ) (e : ElementType) → type_of_class p c ≡ is.Ref (suc d) e → (has_reference_components p c ≡ true) × (cell_type p c ≡ is.Ref d e)
component_is p c d e typed = (has, ap (λ b. if b then type_of_class p (component_of p c) else type_of_number (sort_of_base (item_or element_bases (element_of p c) base.Int))) has ∙ by (class_reference p (component_of p c)))
  where
    has : has_reference_components p c ≡ true
    has = let some = ap dimensions_in typed in many_dimensions p c (omega (arith, some))

    by : IsReference (type_of_class p (component_of p c)) → type_of_class p (component_of p c) ≡ is.Ref d e
    by q =
        let whole : is.Ref (q.dimensions + 1) q.element ≡ is.Ref (suc d) e = ap (raised 1) (sym q.is) ∙ component_type p c has ∙ typed in
        let more = ap dimensions_in whole in
        let same : q.dimensions ≡ d = omega (arith, more) in
        q.is ∙ ap (λ k. is.Ref k q.element) same ∙ ap (is.Ref d) (ap element_in whole)

-- ---- any array

pub array_wanted : (p : Program) (c : ℕ) → list_any (fits p (type_of_class p c)) (references p ∷ map primitives element_bases) ≡ true → is_array p c ≡ true
array_wanted p c met = by (is_array p c) refl
  where
    by : (b : Bool) → is_array p c ≡ b → b ≡ true
    by true array = refl
    by false plain =
        let k : list_any (fits p (class_type p c)) (references p ∷ map primitives element_bases) ≡ true =
        subst (λ (t : VerType). list_any (fits p t) (references p ∷ map primitives element_bases) ≡ true) (plain_type p c plain) met in
        absurd cc
