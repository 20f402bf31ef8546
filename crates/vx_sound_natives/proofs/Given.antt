-- What native methods are given at a call: values of the types of the descriptor are wanted, and as they are read they are of the kinds that are known.
use Rattle.std.proofs.Common.{Bool, List, None, Option, Some, [], ap, arith, bytes_eq, codes, false, inl, inr, pos, refl, subst, sym, true, ℕ, ℤ, ◌&&◌, ◌+◌, ◌-◌, ◌∙◌, ◌∷◌, ◌≡◌}
use Prim.Native.String.{String}
use Rattle.std.proofs.lemmas.Bool.Decides.{Decides-eqb}
use Rattle.std.proofs.lemmas.Nat.{mod_below}
use Rattle.std.proofs.lemmas.Slice.Eq.{bytes_eq-Decides}
use Rattle.std.specs.Int.{cast_unsigned, w32}
use Rattle.std.specs.Prelude.{if◌then◌else◌, option_map, ◌==◌, ◌||◌}
use Rattle.vx_desc.specs.declared.java_type.Base.{Base}
use Rattle.vx_desc.specs.declared.java_type.Base.TheVariants as base
use Rattle.vx_desc.specs.declared.java_type.JavaType.{JavaType}
use Rattle.vx_java.specs.Checks.{is_instance_of, sort_of, sort_of_base}
use Rattle.vx_java.specs.FirstObjects.{narrow_of_base, narrowed_value, narrowed_value_to}
use Rattle.vx_java.specs.Ids.{as_class}
use Rattle.vx_java.specs.Machine.{Here, Int, Object, Value, object_at}
use Rattle.vx_java.specs.Natives.{are_wanted, as_read, is_wanted}
use Rattle.vx_java.specs.declared.operation.Sort.TheVariants as sort
use Rattle.vx_link.specs.Assignability.{above_arrays, assignable, assignable_within, class_assignable}
use Rattle.vx_link.specs.ClassNames.{array_class, class_of_base, class_of_name, class_of_type, component_of, core_class, element_of_base, has_reference_components, is_array, object_class}
use Rattle.vx_link.specs.Hierarchy.{is_among}
use Rattle.vx_link.specs.Signature.{class_in}
use Rattle.vx_link.specs.declared.program.Program.{Program}
use Rattle.vx_sound.proofs.Assigned.{IsCore, core_there, is_named}
use Rattle.vx_sound.proofs.Classes.{instance_there}
use Rattle.vx_sound.proofs.Elements.{no_references, of_reference, primitive_array, primitive_class}
use Rattle.vx_sound.proofs.Fields.{narrowed_type}
use Rattle.vx_sound.proofs.Values.{int_value, some_same}
use Rattle.vx_sound.specs.Sound.{IsSound, named_classes}
use Rattle.vx_sound.specs.Typed.{AreOfTypes, IsOfType}
use Rattle.vx_sound.specs.Values.{type_of_value}
use Rattle.vx_sound_natives.proofs.Table.{is_bool_base, is_char_base, is_class_base, is_int_base, is_long_base, kind_agrees, kinds_agree}
use Rattle.vx_sound_natives.proofs.ValueKinds.{AreOf, IsOf, Kind, a_bool, a_long, an_int, an_object, chars, core_type, type_of_kind}
use Rattle.vx_types.proofs.Tests.{both, both_first, both_second, or_first}
use Rattle.vx_types.specs.Fits.{fits}
use Rattle.vx_types.specs.Flow as flow
use Rattle.vx_types.specs.Types.{element_found, element_named, ref_of_base, type_of, type_of_sort}
use Rattle.vx_types.specs.declared.types.ElementType.{ElementType}
use Rattle.vx_types.specs.declared.types.ElementType.TheVariants as element
use Rattle.vx_types.specs.declared.types.VerType.{VerType}
use Rattle.vx_types.specs.declared.types.VerType.TheVariants as is
use Rattle.vx_value.specs.Arithmetic.{low_bits}

-- ---- what agrees

-- dimensions and a base that pass
passes_parts : (n k : ℕ) (b : Bool) → ((n == k) && b) ≡ true → (n ≡ k) × (b ≡ true)
passes_parts n k b h = ((Decides-eqb n k).0 (both_first (n == k) b h), both_second (n == k) b h)

int_sort : (b : Base) → is_int_base b ≡ true → sort_of_base b ≡ Some sort.Int
int_sort base.Class h = absurd cc
int_sort base.Double h = absurd cc
int_sort base.Float h = absurd cc
int_sort base.Long h = absurd cc
int_sort base.Bool h = refl
int_sort base.Byte h = refl
int_sort base.Char h = refl
int_sort base.Int h = refl
int_sort base.Short h = refl

is_bool : (b : Base) → is_bool_base b ≡ true → b ≡ base.Bool
is_bool base.Bool h = refl
is_bool _ h = absurd cc

is_long : (b : Base) → is_long_base b ≡ true → b ≡ base.Long
is_long base.Long h = refl
is_long _ h = absurd cc

is_class : (b : Base) → is_class_base b ≡ true → b ≡ base.Class
is_class base.Class h = refl
is_class _ h = absurd cc

is_char : (b : Base) → is_char_base b ≡ true → b ≡ base.Char
is_char base.Char h = refl
is_char _ h = absurd cc

-- a type of a class whose name is that of a core class
record NamesCore (d : List ℕ) (t : JavaType) (name : String) : Type 0 where
  pub dimensions : t.dimensions ≡ 0
  pub base : t.base ≡ base.Class
  pub text : class_in d t ≡ codes name
  pub named : is_named named_classes name ≡ true

names_core : (d : List ℕ) (t : JavaType) (name : String) → kind_agrees d (an_object name) t ≡ true → NamesCore d t name
names_core d t name h =
    let one = passes_parts t.dimensions 0 (is_class_base t.base && (bytes_eq (class_in d t) (codes name) && is_named named_classes name)) h in
    let last = both_second (is_class_base t.base) (bytes_eq (class_in d t) (codes name) && is_named named_classes name) one.1 in
    record {
      dimensions = one.0;
      base = is_class t.base (both_first (is_class_base t.base) (bytes_eq (class_in d t) (codes name) && is_named named_classes name) one.1);
      text = (bytes_eq-Decides (class_in d t) (codes name)).0 (both_first (bytes_eq (class_in d t) (codes name)) (is_named named_classes name) last);
      named = both_second (bytes_eq (class_in d t) (codes name)) (is_named named_classes name) last;
    }

module _ (p : Program) (sound : IsSound p) where
  -- ---- types

  sort_plain : (t : JavaType) → t.dimensions ≡ 0 → sort_of t ≡ sort_of_base t.base
  sort_plain t none = ap (λ n. elim (n == 0) [ true ↦ sort_of_base t.base | false ↦ Some sort.Reference ]) none

  core_element : (name : String) → IsCore p false name → element_named p (codes name) ≡ element.Class (as_class (core_class p name))
  core_element name core =
      ap (element_found p (codes name)) core.found ∙ ap (λ b. element.Class (as_class (if b then object_class p else core_class p name))) core.is_interface

  -- the type of a kind is that of the type of the descriptor
  pub kind_type : (d : List ℕ) (t : JavaType) (k : Kind) → kind_agrees d k t ≡ true → type_of p d t ≡ Some (type_of_kind p k)
  kind_type d t an_int h =
      let q = passes_parts t.dimensions 0 (is_int_base t.base) h in
      ap (option_map (type_of_sort p d t)) (sort_plain t q.0 ∙ int_sort t.base q.1)
  kind_type d t a_bool h =
      let q = passes_parts t.dimensions 0 (is_bool_base t.base) h in
      ap (option_map (type_of_sort p d t)) (sort_plain t q.0 ∙ ap sort_of_base (is_bool t.base q.1))
  kind_type d t a_long h =
      let q = passes_parts t.dimensions 0 (is_long_base t.base) h in
      ap (option_map (type_of_sort p d t)) (sort_plain t q.0 ∙ ap sort_of_base (is_long t.base q.1))
  kind_type d t (an_object name) h =
      let q = names_core d t name h in
      let none : t.dimensions + 0 ≡ 0 = let zero_there = q.dimensions in omega (arith, zero_there) in
      ap (option_map (type_of_sort p d t)) (sort_plain t q.dimensions ∙ ap sort_of_base q.base)
      ∙ ap (λ (b : Base). Some (ref_of_base p 0 d t b)) q.base
      ∙ ap (λ n. Some (is.Ref n (element_named p (class_in d t)))) none
      ∙ ap (λ (name : List ℕ). Some (is.Ref 0 (element_named p name))) q.text
      ∙ ap (λ (e : ElementType). Some (is.Ref 0 e)) (core_element name (core_there p sound.core name q.named))
  kind_type d t chars h =
      let q = passes_parts t.dimensions 1 (is_char_base t.base) h in
      let none : t.dimensions - 1 + 0 ≡ 0 = let one = q.0 in omega (arith, one) in
      ap (option_map (type_of_sort p d t)) (ap (λ n. elim (n == 0) [ true ↦ sort_of_base t.base | false ↦ Some sort.Reference ]) q.0)
      ∙ ap (λ (b : Base). Some (ref_of_base p 0 d t b)) (is_char t.base q.1)
      ∙ ap (λ n. Some (is.Ref n (element.Primitives base.Char))) none

  module _ (heap : List Object) where
    fitting : (o : Option VerType) (t : VerType) (v : Value) → o ≡ Some t → IsOfType p heap o v → fits p (type_of_value p heap v) t ≡ true
    fitting None t v e of = absurd of
    fitting (Some u) t v e of = subst (λ (x : VerType). fits p (type_of_value p heap v) x ≡ true) (some_same e) of

    -- a value as it is read
    narrowed_fits : (t : JavaType) (v : Value) (u : VerType) → fits p (type_of_value p heap v) u ≡ true → fits p (type_of_value p heap (narrowed_value t v)) u ≡ true
    narrowed_fits t v u fit = subst (λ (x : VerType). fits p x u ≡ true) (sym (narrowed_type p heap t v)) fit

    int_there : (v : Value) → fits p (type_of_value p heap v) is.Int ≡ true → (P : Value → Type 0) → ((n : ℤ) → P (Int n)) → P v
    int_there v fit P each = int_value p heap P v (by (type_of_value p heap v) fit) each
      where
        by : (t : VerType) → fits p t is.Int ≡ true → flow.is_of sort.Int t ≡ true
        by is.Int fit = refl
        by _ fit = absurd cc

    -- a boolean is 0 or 1
    bool_read : (t : JavaType) → t.dimensions ≡ 0 → t.base ≡ base.Bool → (v : Value) → fits p (type_of_value p heap v) is.Int ≡ true → IsOf p heap a_bool (narrowed_value t v)
    bool_read t none of v fit =
        int_there v fit (λ w. IsOf p heap a_bool (narrowed_value t w)) (λ n.
        let below = mod_below (cast_unsigned w32 n) 2 (omega arith) in (
          pos (low_bits w32 1 n),
          ap (λ k. narrowed_value_to (elim (k == 0) [ true ↦ narrow_of_base t.base | false ↦ None ]) (Int n)) none ∙ ap (λ (b : Base). narrowed_value_to (narrow_of_base b) (Int n)) of,
          omega (arith, below),
        ))

    pub value_read : (d : List ℕ) (t : JavaType) (k : Kind) → kind_agrees d k t ≡ true → (v : Value) → IsOfType p heap (type_of p d t) v → IsOf p heap k (narrowed_value t v)
    value_read d t an_int h v of = narrowed_fits t v is.Int (fitting (type_of p d t) is.Int v (kind_type d t an_int h) of)
    value_read d t a_bool h v of =
        let q = passes_parts t.dimensions 0 (is_bool_base t.base) h in
        bool_read t q.0 (is_bool t.base q.1) v (fitting (type_of p d t) is.Int v (kind_type d t a_bool h) of)
    value_read d t a_long h v of = narrowed_fits t v is.Long (fitting (type_of p d t) is.Long v (kind_type d t a_long h) of)
    value_read d t (an_object name) h v of = narrowed_fits t v (core_type p name) (fitting (type_of p d t) (core_type p name) v (kind_type d t (an_object name) h) of)
    value_read d t chars h v of = narrowed_fits t v (type_of_kind p chars) (fitting (type_of p d t) (type_of_kind p chars) v (kind_type d t chars h) of)

    pub values_read : (d : List ℕ) (kinds : List Kind) (types : List JavaType) → kinds_agree d kinds types ≡ true → (values : List Value) → AreOfTypes p heap d types values → AreOf p heap kinds (as_read types values)
    values_read d [] [] h [] are = tt
    values_read d [] [] h (v ∷ values) are = absurd are
    values_read d (k ∷ kinds) (t ∷ types) h [] are = absurd are
    values_read d (k ∷ kinds) (t ∷ types) h (v ∷ values) are = (
      value_read d t k (both_first (kind_agrees d k t) (kinds_agree d kinds types) h) v are.0,
      values_read d kinds types (both_second (kind_agrees d k t) (kinds_agree d kinds types) h) values are.1,
    )
    values_read d [] (t ∷ types) h values are = absurd cc
    values_read d (k ∷ kinds) [] h values are = absurd cc

-- ---- what is wanted

-- an array of a primitive type is of its own class
primitive_itself : (p : Program) (c : ℕ) → is_array p c ≡ true → has_reference_components p c ≡ false → assignable p c c ≡ true
primitive_itself p c array none =
    ap (λ b. elim b [
      | false ↦ class_assignable p c c
      | true ↦ elim (has_reference_components p c && has_reference_components p c) [
        | true ↦ assignable_within p 254 (component_of p c) (component_of p c)
        | false ↦ (c == c) || is_among c (above_arrays p)
      ]
    ]) array
    ∙ ap (λ b. elim (b && b) [
      | true ↦ assignable_within p 254 (component_of p c) (component_of p c)
      | false ↦ (c == c) || is_among c (above_arrays p)
    ]) none
    ∙ or_first (c == c) (is_among c (above_arrays p)) ((Decides-eqb c c).1 refl)

module _ (h : Here) (sound : IsSound h.program) where
  plain_wanted : (d : List ℕ) (t : JavaType) (b : Base) → t.dimensions ≡ 0 → t.base ≡ b → class_of_base h.program d t b ≡ None → (v : Value) → is_wanted h (class_of_type h.program d t) v ≡ true
  plain_wanted d t b none of nothing v =
      ap (λ (o : Option ℕ). is_wanted h o v)
      (ap (λ n. elim (n == 0) [ true ↦ class_of_base h.program d t t.base | false ↦ option_map (array_class h.program t.dimensions) (element_of_base h.program d t t.base) ]) none
      ∙ ap (class_of_base h.program d t) of ∙ nothing)

  chars_wanted : (v : Value) → fits h.program (type_of_value h.program h.state.heap v) (type_of_kind h.program chars) ≡ true → is_instance_of h (array_class h.program 1 2) v ≡ true
  chars_wanted v fit = elim (of_reference h.program h.state.heap (type_of_kind h.program chars) v (record { dimensions = _; element = _; is = refl }) fit) [
    | inl null ↦ subst (λ (w : Value). is_instance_of h (array_class h.program 1 2) w ≡ true) (sym null) refl
    | inr o ↦
        let c : ℕ = (object_at h.state o.object).class in
        let q = primitive_array h.program c base.Char o.fit in
        subst (λ (w : Value). is_instance_of h (array_class h.program 1 2) w ≡ true) (sym o.is)
        (subst (λ n. assignable h.program c n ≡ true) (primitive_class h.program c base.Char q) (primitive_itself h.program c q.array (no_references h.program c q.dimensions q.low)))
  ]

  int_plain : (d : List ℕ) (t : JavaType) (b : Base) → is_int_base b ≡ true → class_of_base h.program d t b ≡ None
  int_plain d t base.Class k = absurd cc
  int_plain d t _ k = refl

  value_wanted : (d : List ℕ) (t : JavaType) (k : Kind) → kind_agrees d k t ≡ true → (v : Value) → IsOfType h.program h.state.heap (type_of h.program d t) v → is_wanted h (class_of_type h.program d t) v ≡ true
  value_wanted d t an_int k v of = let q = passes_parts t.dimensions 0 (is_int_base t.base) k in plain_wanted d t t.base q.0 refl (int_plain d t t.base q.1) v
  value_wanted d t a_bool k v of = let q = passes_parts t.dimensions 0 (is_bool_base t.base) k in plain_wanted d t base.Bool q.0 (is_bool t.base q.1) refl v
  value_wanted d t a_long k v of = let q = passes_parts t.dimensions 0 (is_long_base t.base) k in plain_wanted d t base.Long q.0 (is_long t.base q.1) refl v
  value_wanted d t (an_object name) k v of =
      let q = names_core d t name k in
      let core = core_there h.program sound.core name q.named in
      ap (λ (o : Option ℕ). is_wanted h o v)
      (ap (λ n. elim (n == 0) [ true ↦ class_of_base h.program d t t.base | false ↦ option_map (array_class h.program t.dimensions) (element_of_base h.program d t t.base) ]) q.dimensions
      ∙ ap (class_of_base h.program d t) q.base ∙ ap (class_of_name h.program) q.text ∙ core.found)
      ∙ instance_there h sound.hierarchy (core_class h.program name) v
      (fitting h.program sound h.state.heap (type_of h.program d t) (core_type h.program name) v (kind_type h.program sound d t (an_object name) k) of)
  value_wanted d t chars k v of =
      let q = passes_parts t.dimensions 1 (is_char_base t.base) k in
      ap (λ (o : Option ℕ). is_wanted h o v)
      (ap (λ n. elim (n == 0) [ true ↦ class_of_base h.program d t t.base | false ↦ option_map (array_class h.program n) (element_of_base h.program d t t.base) ]) q.0
      ∙ ap (λ (b : Base). option_map (array_class h.program 1) (element_of_base h.program d t b)) (is_char t.base q.1))
      ∙ chars_wanted v (fitting h.program sound h.state.heap (type_of h.program d t) (type_of_kind h.program chars) v (kind_type h.program sound d t chars k) of)

  pub values_wanted : (d : List ℕ) (kinds : List Kind) (types : List JavaType) → kinds_agree d kinds types ≡ true → (values : List Value) → AreOfTypes h.program h.state.heap d types values
      → are_wanted h d types values ≡ true
  values_wanted d [] [] k values are = refl
  values_wanted d (x ∷ kinds) (t ∷ types) k [] are = refl
  values_wanted d (x ∷ kinds) (t ∷ types) k (v ∷ values) are =
      both (is_wanted h (class_of_type h.program d t) v) (are_wanted h d types values)
      (value_wanted d t x (both_first (kind_agrees d x t) (kinds_agree d kinds types) k) v are.0)
      (values_wanted d kinds types (both_second (kind_agrees d x t) (kinds_agree d kinds types) k) values are.1)
  values_wanted d [] (t ∷ types) k values are = absurd cc
  values_wanted d (x ∷ kinds) [] k values are = absurd cc
