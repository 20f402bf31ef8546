-- The native methods by their numbers, each with what is known of it, which agrees with its form.
use Rattle.std.proofs.Common.{Bool, List, None, Option, Some, [], ap, arith, bytes_eq, codes, false, map, not, refl, subst, suc, sym, true, unwrap_or, zero, ℕ, ◌&&◌, ◌++◌, ◌+◌, ◌∷◌, ◌≡◌}
use Prim.Native.String.{String}
use Rattle.std.specs.Prelude.{slice_get, ◌==◌}
use Rattle.vx_desc.specs.Descriptors.{element_at, method_of, result_at, type_at, types_at}
use Rattle.vx_desc.specs.Names.{is_class_name}
use Rattle.vx_desc.specs.declared.java_type.Base.{Base}
use Rattle.vx_desc.specs.declared.java_type.Base.TheVariants as base
use Rattle.vx_desc.specs.declared.java_type.JavaType.{JavaType}
use Rattle.vx_java.specs.NativeForms.{Form, form_of, forms}
use Rattle.vx_java.specs.Natives.{native_methods, native_of, no_native}
use Rattle.vx_java.specs.Texts.{NativeMethod}
use Rattle.vx_link.specs.Signature.{class_in, signature}
use Rattle.vx_sound.proofs.Assigned.{is_named}
use Rattle.vx_sound.proofs.Values.{none_some, some_same}
use Rattle.vx_sound.specs.Sound.{class_of_number, named_classes}
use Rattle.vx_sound_natives.proofs.BuilderNatives.{builder_natives}
use Rattle.vx_sound_natives.proofs.CopyNative.{copy_natives}
use Rattle.vx_sound_natives.proofs.Known.{Known}
use Rattle.vx_sound_natives.proofs.NumberNatives.{boolean_natives, integer_natives, math_natives, system_natives}
use Rattle.vx_sound_natives.proofs.ObjectNatives.{enum_natives, throwable_natives}
use Rattle.vx_sound_natives.proofs.StreamNatives.{class_natives, line_natives, object_natives, print_natives}
use Rattle.vx_sound_natives.proofs.TextNatives.{string_natives}
use Rattle.vx_sound_natives.proofs.ValueKinds.{Kind, a_bool, a_long, an_int, an_object, chars}
use Rattle.vx_types.proofs.Tests.{both_first, both_second}

-- ---- kinds and types

abbrev pub is_int_base : Base → Bool
is_int_base base.Class = false
is_int_base base.Double = false
is_int_base base.Float = false
is_int_base base.Long = false
is_int_base _ = true

abbrev pub is_bool_base : Base → Bool
is_bool_base base.Bool = true
is_bool_base _ = false

abbrev pub is_long_base : Base → Bool
is_long_base base.Long = true
is_long_base _ = false

abbrev pub is_class_base : Base → Bool
is_class_base base.Class = true
is_class_base _ = false

abbrev pub is_char_base : Base → Bool
is_char_base base.Char = true
is_char_base _ = false

-- a kind says what a type of a descriptor says
abbrev pub kind_agrees : List ℕ → Kind → JavaType → Bool
kind_agrees d an_int t = (t.dimensions == 0) && is_int_base t.base
kind_agrees d a_bool t = (t.dimensions == 0) && is_bool_base t.base
kind_agrees d a_long t = (t.dimensions == 0) && is_long_base t.base
kind_agrees d (an_object name) t = (t.dimensions == 0) && (is_class_base t.base && (bytes_eq (class_in d t) (codes name) && is_named named_classes name))
kind_agrees d chars t = (t.dimensions == 1) && is_char_base t.base

abbrev pub kinds_agree : List ℕ → List Kind → List JavaType → Bool
kinds_agree d [] [] = true
kinds_agree d (k ∷ kinds) (t ∷ types) = kind_agrees d k t && kinds_agree d kinds types
kinds_agree d _ _ = false

abbrev pub result_agrees : List ℕ → Option Kind → Option JavaType → Bool
result_agrees d None None = true
result_agrees d (Some k) (Some t) = kind_agrees d k t
result_agrees d _ _ = false

-- ---- forms

abbrev pub has_name : String → Option String → Bool
has_name name None = false
has_name name (Some other) = bytes_eq (codes other) (codes name) && is_named named_classes name

-- a native method of an object is one of the class of its number
abbrev pub receiver_agrees : (number : ℕ) → Option String → (static : Bool) → Bool
receiver_agrees n None static = static
receiver_agrees n (Some name) static = not static && has_name name (class_of_number n)

abbrev pub form_agrees : (number : ℕ) → Known → Form → Bool
form_agrees n k f =
    receiver_agrees n k.receiver f.static
    && (kinds_agree f.descriptor k.arguments (signature f.descriptor).arguments && result_agrees f.descriptor k.result (signature f.descriptor).result)

abbrev pub all_agree : (number : ℕ) → List Known → List Form → Bool
all_agree n [] [] = true
all_agree n (k ∷ known) (f ∷ forms) = form_agrees n k f && all_agree (suc n) known forms
all_agree n _ _ = false

-- ---- the table

abbrev known_natives : List Known
known_natives =
    object_natives ++ (string_natives ++ (builder_natives ++ (class_natives ++ (print_natives [] ++ (print_natives (10 ∷ []) ++ (line_natives ++ (copy_natives ++ (system_natives
    ++ (integer_natives ++ (boolean_natives ++ (math_natives ++ (enum_natives ++ throwable_natives))))))))))))

all_known : map (λ k. k.method) known_natives ≡ native_methods
unfolding object_natives string_natives builder_natives class_natives print_natives line_natives copy_natives system_natives integer_natives boolean_natives math_natives enum_natives throwable_natives
all_known = refl

agreed : all_agree 1 known_natives forms ≡ true
unfolding object_natives string_natives builder_natives class_natives print_natives line_natives copy_natives system_natives integer_natives boolean_natives math_natives enum_natives throwable_natives method_of types_at type_at element_at result_at is_class_name
agreed = refl

-- ---- a native method by its number

record IsListed (number : ℕ) (known : List Known) (i : ℕ) (f : Form) : Type 0 where
  pub entry : Known
  pub there : slice_get known i ≡ Some entry
  pub agrees : form_agrees number entry f ≡ true

listed : (n : ℕ) (known : List Known) (forms : List Form) → all_agree n known forms ≡ true → (i : ℕ) (f : Form) → slice_get forms i ≡ Some f → (number : ℕ) → number ≡ n + i → IsListed number known i f
listed n [] [] all i f there number is = absurd cc
listed n (k ∷ known) [] all i f there number is = absurd cc
listed n [] (g ∷ forms) all i f there number is = absurd cc
listed n (k ∷ known) (g ∷ forms) all zero f there number is =
    let same : number ≡ n = omega (arith, is) in
    record {
      entry = k;
      there = refl;
      agrees = subst (λ m. form_agrees m k f ≡ true) (sym same) (subst (λ (x : Form). form_agrees n k x ≡ true) (some_same there) (both_first (form_agrees n k g) (all_agree (suc n) known forms) all));
    }
listed n (k ∷ known) (g ∷ forms) all (suc i) f there number is =
    let q = listed (suc n) known forms (both_second (form_agrees n k g) (all_agree (suc n) known forms) all) i f there number (omega (arith, is)) in
    record { entry = q.entry; there = q.there; agrees = q.agrees }

method_listed : (known : List Known) (i : ℕ) (k : Known) → slice_get known i ≡ Some k → unwrap_or (slice_get (map (λ x. x.method) known) i) no_native ≡ k.method
method_listed [] i k there = none_some there
method_listed (x ∷ known) zero k there = ap (λ (y : Known). y.method) (some_same there)
method_listed (x ∷ known) (suc i) k there = method_listed known i k there

-- the native method of a number that has a form
pub record IsKnown (number : ℕ) (f : Form) : Type 0 where
  pub entry : Known
  pub method : native_of number ≡ entry.method
  pub agrees : form_agrees number entry f ≡ true

pub native_known : (number : ℕ) (f : Form) → form_of number ≡ Some f → IsKnown number f
native_known zero f there = none_some there
native_known (suc n) f there =
    let q = listed 1 known_natives forms agreed n f there (suc n) (omega arith) in
    record {
      entry = q.entry;
      method = subst (λ (methods : List NativeMethod). unwrap_or (slice_get methods n) no_native ≡ q.entry.method) all_known (method_listed known_natives n q.entry q.there);
      agrees = q.agrees;
    }
