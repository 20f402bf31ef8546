-- Arrays and their classes.
use Rattle.std.proofs.Common.{◌≡◌, ℕ, zero, suc, List, [], ◌∷◌, replicate, refl, sym, ◌∙◌, ap, drop, ℤ}
use Rattle.std.specs.Prelude.{None, Some, slice_get}
use Rattle.vx_java.specs.Arrays.{array_length, load_element, may_hold, new_array, store_element, value_kept}
use Rattle.vx_java.specs.Machine as machine
use Rattle.vx_java.specs.Machine.{Here, illegal, object_at}
use Rattle.vx_java.specs.declared.operation.Element.{Element}
use Rattle.vx_java.specs.declared.operation.Element.TheVariants.{Bytes, Chars, Ints, Longs, References, Shorts}
use Rattle.vx_link.specs.Assignability.{assignable}
use Rattle.vx_link.specs.ClassNames.{component_of}
use Rattle.vx_plain.specs.Views.{value_of, values_of}
use Rattle.vx_plain.specs.declared.value.Value.{Value}
use Rattle.vx_plain.specs.declared.value.Value.TheVariants.{Int, Long, Null, Ref, Top}
use Rattle.vx_plain_arrays.specs.Elements.{int_in, kept}
use Rattle.vx_plain_casts.specs.Objects.{object_in}
use Rattle.vx_plain_here.proofs.Operands.{no_top, top, top_alone, top_two}

pub filled : (n : ℕ) (v : Value) → values_of (replicate n v) ≡ replicate n (value_of v)
filled zero v = refl
filled (suc n) v = ap (λ vs. value_of v ∷ vs) (filled n v)

pub kept_is : (e : Element) (v : Value) → value_of (kept e v) ≡ value_kept e (value_of v)
kept_is Bytes (Int n) = refl
kept_is Bytes Top = refl
kept_is Bytes (Long n) = refl
kept_is Bytes Null = refl
kept_is Bytes (Ref r) = refl
kept_is Chars (Int n) = refl
kept_is Chars Top = refl
kept_is Chars (Long n) = refl
kept_is Chars Null = refl
kept_is Chars (Ref r) = refl
kept_is Shorts (Int n) = refl
kept_is Shorts Top = refl
kept_is Shorts (Long n) = refl
kept_is Shorts Null = refl
kept_is Shorts (Ref r) = refl
kept_is Ints Top = refl
kept_is Ints (Int n) = refl
kept_is Ints (Long n) = refl
kept_is Ints Null = refl
kept_is Ints (Ref r) = refl
kept_is Longs Top = refl
kept_is Longs (Int n) = refl
kept_is Longs (Long n) = refl
kept_is Longs Null = refl
kept_is Longs (Ref r) = refl
kept_is References Top = refl
kept_is References (Int n) = refl
kept_is References (Long n) = refl
kept_is References Null = refl
kept_is References (Ref r) = refl

-- ---- ints

same_some : {A : Type 0} (a b : A) → Some a ≡ Some b → a ≡ b
same_some a b e = cc

-- ---- operands, where one lacks or is no int

pub new_none : (h : Here) (class : ℕ) (operands : List machine.Value) → None ≡ slice_get operands 0 → illegal h ≡ new_array h class operands
new_none h class operands none = ap (new_array h class) (sym (no_top operands none))

pub new_some : (h : Here) (class : ℕ) (operands : List machine.Value) (v : machine.Value) → Some v ≡ slice_get operands 0 → new_array h class (v ∷ drop 1 operands) ≡ new_array h class operands
new_some h class operands v there = ap (new_array h class) (sym (top operands v there))

pub new_other : (h : Here) (class : ℕ) (rest : List machine.Value) (v : Value) → None ≡ int_in v → illegal h ≡ new_array h class (value_of v ∷ rest)
new_other h class rest Top none = refl
new_other h class rest (Int n) none = cc
new_other h class rest (Long n) none = refl
new_other h class rest Null none = refl
new_other h class rest (Ref r) none = refl

pub load_none : (h : Here) (e : Element) (operands : List machine.Value) → None ≡ slice_get operands 0 → illegal h ≡ load_element h e operands
load_none h e operands none = ap (load_element h e) (sym (no_top operands none))

pub load_other : (h : Here) (e : Element) (operands : List machine.Value) (v : Value) → Some (value_of v) ≡ slice_get operands 0 → None ≡ int_in v → illegal h ≡ load_element h e operands
load_other h e operands v there none = other v none ∙ ap (load_element h e) (sym (top operands (value_of v) there))
  where
    other : (v : Value) → None ≡ int_in v → illegal h ≡ load_element h e (value_of v ∷ drop 1 operands)
    other Top none = refl
    other (Int n) none = cc
    other (Long n) none = refl
    other Null none = refl
    other (Ref r) none = refl

pub load_one : (h : Here) (e : Element) (operands : List machine.Value) (n : ℤ) → Some (machine.Int n) ≡ slice_get operands 0 → None ≡ slice_get operands 1 → illegal h ≡ load_element h e operands
load_one h e operands n there none = ap (load_element h e) (sym (top_alone operands (machine.Int n) there none))

pub load_two : (h : Here) (e : Element) (operands : List machine.Value) (n : ℤ) (a : machine.Value) → Some (machine.Int n) ≡ slice_get operands 0 → Some a ≡ slice_get operands 1 → load_element h e (machine.Int n ∷ a ∷ drop 2 operands) ≡ load_element h e operands
load_two h e operands n a there under = ap (load_element h e) (sym (top_two operands (machine.Int n) a there under))

pub length_none : (h : Here) (operands : List machine.Value) → None ≡ slice_get operands 0 → illegal h ≡ array_length h operands
length_none h operands none = ap (array_length h) (sym (no_top operands none))

pub length_some : (h : Here) (operands : List machine.Value) (a : machine.Value) → Some a ≡ slice_get operands 0 → array_length h (a ∷ drop 1 operands) ≡ array_length h operands
length_some h operands a there = ap (array_length h) (sym (top operands a there))

pub store_none : (h : Here) (e : Element) (operands : List machine.Value) → None ≡ slice_get operands 0 → illegal h ≡ store_element h e operands
store_none h e operands none = ap (store_element h e) (sym (no_top operands none))

pub store_one : (h : Here) (e : Element) (operands : List machine.Value) (v : machine.Value) → Some v ≡ slice_get operands 0 → None ≡ slice_get operands 1 → illegal h ≡ store_element h e operands
store_one h e operands v there none = ap (store_element h e) (sym (top_alone operands v there none))

pub store_other : (h : Here) (e : Element) (operands : List machine.Value) (v : machine.Value) (i : Value) → Some v ≡ slice_get operands 0 → Some (value_of i) ≡ slice_get operands 1 → None ≡ int_in i → illegal h ≡ store_element h e operands
store_other h e operands v i there under none = other i none ∙ ap (store_element h e) (sym (top_two operands v (value_of i) there under))
  where
    other : (i : Value) → None ≡ int_in i → illegal h ≡ store_element h e (v ∷ value_of i ∷ drop 2 operands)
    other Top none = refl
    other (Int n) none = cc
    other (Long n) none = refl
    other Null none = refl
    other (Ref r) none = refl

third : (operands : List machine.Value) (u v w : machine.Value) → Some u ≡ slice_get operands 0 → Some v ≡ slice_get operands 1 → Some w ≡ slice_get operands 2 → operands ≡ u ∷ v ∷ w ∷ drop 3 operands
third [] u v w a b c = cc
third (x ∷ []) u v w a b c = cc
third (x ∷ y ∷ []) u v w a b c = cc
third (x ∷ y ∷ z ∷ rest) u v w a b c = cc

pair_alone : (operands : List machine.Value) (u v : machine.Value) → Some u ≡ slice_get operands 0 → Some v ≡ slice_get operands 1 → None ≡ slice_get operands 2 → operands ≡ u ∷ v ∷ []
pair_alone [] u v a b c = cc
pair_alone (x ∷ []) u v a b c = cc
pair_alone (x ∷ y ∷ []) u v a b c = cc
pair_alone (x ∷ y ∷ z ∷ rest) u v a b c = cc

pub store_two : (h : Here) (e : Element) (operands : List machine.Value) (v : machine.Value) (n : ℤ) → Some v ≡ slice_get operands 0 → Some (machine.Int n) ≡ slice_get operands 1 → None ≡ slice_get operands 2 → illegal h ≡ store_element h e operands
store_two h e operands v n there under none = ap (store_element h e) (sym (pair_alone operands v (machine.Int n) there under none))

pub store_three : (h : Here) (e : Element) (operands : List machine.Value) (v : machine.Value) (n : ℤ) (a : machine.Value) → Some v ≡ slice_get operands 0 → Some (machine.Int n) ≡ slice_get operands 1 → Some a ≡ slice_get operands 2
    → store_element h e (v ∷ machine.Int n ∷ a ∷ drop 3 operands) ≡ store_element h e operands
store_three h e operands v n a there under below = ap (store_element h e) (sym (third operands v (machine.Int n) a there under below))

-- a reference that is stored
pub held : (h : Here) (r o : ℕ) (v : Value) → Some o ≡ object_in v → assignable h.program (object_at h.state o).class (component_of h.program (object_at h.state r).class) ≡ may_hold h r (value_of v)
held h r o Top e = cc
held h r o (Int n) e = cc
held h r o (Long n) e = cc
held h r o Null e = cc
held h r o (Ref k) e = ap (λ n. assignable h.program (object_at h.state n).class (component_of h.program (object_at h.state r).class)) (same_some o k e)
