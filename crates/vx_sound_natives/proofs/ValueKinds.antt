-- The kinds of values that native methods take and hand back, and what holds of all values of some kinds.
use Rattle.std.proofs.Common.{List, Option, [], ap, arith, inl, inr, length, refl, subst, sym, true, ℕ, ℤ, ◌<◌, ◌∷◌, ◌≡◌, ◌≤◌}
use Prim.Native.String.{String}
use Rattle.std.proofs.lemmas.Bool.{lt-ltb}
use Rattle.std.specs.Prelude.{if◌then◌else◌, option_map}
use Rattle.vx_desc.specs.declared.java_type.Base.TheVariants as base
use Rattle.vx_java.specs.Ids.{as_class}
use Rattle.vx_java.specs.Machine.{Int, Long, Null, Object, Ref, Value, no_object}
use Rattle.vx_java.specs.declared.operation.Sort.TheVariants as sort
use Rattle.vx_link.specs.ClassNames.{core_class}
use Rattle.vx_link.specs.declared.program.Program.{Program}
use Rattle.vx_list.specs.Places.{item_or}
use Rattle.vx_sound.proofs.Elements.{of_reference}
use Rattle.vx_sound.proofs.Heaps.{IsLaterHeap}
use Rattle.vx_sound.proofs.Values.{IsReference, int_value, long_value}
use Rattle.vx_sound.specs.Values.{type_of_class, type_of_reference, type_of_value}
use Rattle.vx_types.specs.Fits.{fits}
use Rattle.vx_types.specs.Flow as flow
use Rattle.vx_types.specs.declared.types.ElementType.TheVariants as element
use Rattle.vx_types.specs.declared.types.VerType.{VerType}
use Rattle.vx_types.specs.declared.types.VerType.TheVariants as is
use Rattle.vx_value.specs.Arithmetic.{natural}

-- ---- kinds

-- a number, which may be that of a boolean; an object of a core class, or null; an array of chars, or null
pub data Kind : Type 0 where
  an_int : Kind
  a_bool : Kind
  a_long : Kind
  an_object : (class : String) → Kind
  chars : Kind

-- the type of a core class
abbrev pub core_type : Program → String → VerType
core_type p name = is.Ref 0 (element.Class (as_class (core_class p name)))

abbrev pub type_of_kind : Program → Kind → VerType
type_of_kind p an_int = is.Int
type_of_kind p a_bool = is.Int
type_of_kind p a_long = is.Long
type_of_kind p (an_object name) = core_type p name
type_of_kind p chars = is.Ref 0 (element.Primitives base.Char)

abbrev pub result_type : Program → Option Kind → Option VerType
result_type p kind = option_map (type_of_kind p) kind

-- ---- objects

-- an object is there, and its class is of a type
pub record IsAt (p : Program) (heap : List Object) (t : VerType) (r : ℕ) : Type 0 where
  pub there : r < length heap
  pub fit : fits p (type_of_class p (item_or heap r no_object).class) t ≡ true

pub reference_is : (p : Program) (heap : List Object) (r : ℕ) → r < length heap → type_of_reference p heap r ≡ type_of_class p (item_or heap r no_object).class
reference_is p heap r less = ap (λ b. if b then type_of_class p (item_or heap r no_object).class else is.Top) (lt-ltb r (length heap) less)

pub at_fits : (p : Program) (heap : List Object) (t : VerType) (r : ℕ) → IsAt p heap t r → fits p (type_of_reference p heap r) t ≡ true
at_fits p heap t r at = subst (λ (u : VerType). fits p u t ≡ true) (sym (reference_is p heap r at.there)) at.fit

pub at_later : (p : Program) (heap later : List Object) (t : VerType) (r : ℕ) → IsLaterHeap heap later → IsAt p heap t r → IsAt p later t r
at_later p heap later t r grows at = record {
  there = let more = grows.more in let less = at.there in omega (arith, more, less);
  fit = subst (λ c. fits p (type_of_class p c) t ≡ true) (sym (grows.same r at.there)) at.fit;
}

-- ---- values of kinds

module _ (p : Program) (heap : List Object) where
  -- a value is of a kind
  abbrev pub IsOf : Kind → Value → Type 0
  IsOf a_bool v = (n : ℤ) × (v ≡ Int n) × (natural n ≤ 1)
  IsOf kind v = fits p (type_of_value p heap v) (type_of_kind p kind) ≡ true

  abbrev pub AreOf : List Kind → List Value → Type 0
  AreOf [] [] = Unit {0}
  AreOf (k ∷ kinds) (v ∷ values) = IsOf k v × AreOf kinds values
  AreOf _ _ = ⊥

  -- what holds of null and of each object of a type
  abbrev pub EachReference : VerType → (Value → Type 0) → Type 0
  EachReference t P = P Null × ((r : ℕ) → IsAt p heap t r → P (Ref r))

  -- what holds of all values of some kinds
  abbrev pub Each : List Kind → (List Value → Type 0) → Type 0
  Each [] P = P []
  Each (an_int ∷ kinds) P = (n : ℤ) → Each kinds (λ vs. P (Int n ∷ vs))
  Each (a_bool ∷ kinds) P = (n : ℤ) → natural n ≤ 1 → Each kinds (λ vs. P (Int n ∷ vs))
  Each (a_long ∷ kinds) P = (n : ℤ) → Each kinds (λ vs. P (Long n ∷ vs))
  Each (an_object name ∷ kinds) P = EachReference (core_type p name) (λ v. Each kinds (λ vs. P (v ∷ vs)))
  Each (chars ∷ kinds) P = EachReference (type_of_kind p chars) (λ v. Each kinds (λ vs. P (v ∷ vs)))

  of_each_reference : (t : VerType) → IsReference t → (P : Value → Type 0) → EachReference t P → (v : Value) → fits p (type_of_value p heap v) t ≡ true → P v
  of_each_reference t q P each v fit = elim (of_reference p heap t v q fit) [
    | inl null ↦ subst P (sym null) each.0
    | inr o ↦ subst P (sym o.is) (each.1 o.object (record { there = o.there; fit = o.fit }))
  ]

  pub of_each : (kinds : List Kind) (values : List Value) (P : List Value → Type 0) → AreOf kinds values → Each kinds P → P values
  of_each [] [] P are each = each
  of_each (an_int ∷ kinds) (v ∷ values) P are each =
      int_value p heap (λ w. P (w ∷ values)) v (int_sort v are.0) (λ n. of_each kinds values (λ vs. P (Int n ∷ vs)) are.1 (each n))
    where
      int_sort : (w : Value) → fits p (type_of_value p heap w) is.Int ≡ true → flow.is_of sort.Int (type_of_value p heap w) ≡ true
      int_sort w fit = is_int (type_of_value p heap w) fit
        where
          is_int : (t : VerType) → fits p t is.Int ≡ true → flow.is_of sort.Int t ≡ true
          is_int is.Int fit = refl
          is_int _ fit = absurd cc
  of_each (a_bool ∷ kinds) (v ∷ values) P are each =
      let n = are.0.0 in
      subst (λ (w : Value). P (w ∷ values)) (sym are.0.1) (of_each kinds values (λ vs. P (Int n ∷ vs)) are.1 (each n are.0.2))
  of_each (a_long ∷ kinds) (v ∷ values) P are each =
      long_value p heap (λ w. P (w ∷ values)) v (long_sort v are.0) (λ n. of_each kinds values (λ vs. P (Long n ∷ vs)) are.1 (each n))
    where
      long_sort : (w : Value) → fits p (type_of_value p heap w) is.Long ≡ true → flow.is_of sort.Long (type_of_value p heap w) ≡ true
      long_sort w fit = is_long (type_of_value p heap w) fit
        where
          is_long : (t : VerType) → fits p t is.Long ≡ true → flow.is_of sort.Long t ≡ true
          is_long is.Long fit = refl
          is_long _ fit = absurd cc
  of_each (an_object name ∷ kinds) (v ∷ values) P are each =
      of_each kinds values (λ vs. P (v ∷ vs)) are.1
      (of_each_reference (core_type p name) (record { dimensions = _; element = _; is = refl }) (λ w. Each kinds (λ vs. P (w ∷ vs))) each v are.0)
  of_each (chars ∷ kinds) (v ∷ values) P are each =
      of_each kinds values (λ vs. P (v ∷ vs)) are.1
      (of_each_reference (type_of_kind p chars) (record { dimensions = _; element = _; is = refl }) (λ w. Each kinds (λ vs. P (w ∷ vs))) each v are.0)
  of_each _ _ P are each = absurd are
