-- The numbers of native methods, and the forms of methods with these numbers.
use Rattle.std.proofs.Common.{◌≡◌, ℕ, ◌<◌, zero, suc, Bool, true, false, arith, map, refl, sym, ◌∙◌, ap}
use Rattle.std.proofs.lemmas.Bool.{le-ltb}
use Rattle.std.proofs.lemmas.Option.{slice_get_past}
use Rattle.std.specs.Prelude.{◌&&◌, [], List, Option, None, nat_lt, slice_get, unwrap_or}
use Rattle.vx_desc.specs.Descriptors.{element_at, method_of, result_at, type_at, types_at}
use Rattle.vx_desc.specs.Names.{is_class_name}
use Rattle.vx_java.specs.Natives.{native_methods, native_of, no_native}
use Rattle.vx_java.specs.Texts.{NativeMethod}
use Rattle.vx_java.specs.NativeForms.{forms}
use Rattle.vx_value.specs.declared.operation.Narrow.{Narrow}
use Rattle.vx_natives.specs.Forms.{is_numbered, reads, reads_at, reads_of}

-- there are 92
pub none_above : (n : ℕ) → 92 < n → no_native ≡ native_of n
none_above zero l = absurd (omega (arith, l))
none_above (suc n) l =
    let past : slice_get native_methods n ≡ None = slice_get_past native_methods n (omega (arith, l)) in
    sym (ap (λ (o : Option NativeMethod). unwrap_or o no_native) past)

pub unread : (n : ℕ) → 92 < n → [] ≡ reads_at n
unread zero l = absurd (omega (arith, l))
unread (suc n) l =
    let past : slice_get reads n ≡ None = slice_get_past reads n (omega (arith, l)) in
    sym (ap (λ (o : Option (List (Option Narrow))). unwrap_or o []) past)

pub unnumbered : (n : ℕ) → 92 < n → false ≡ is_numbered n
unnumbered n l = sym (ap (λ b. nat_lt 0 n && b) (le-ltb n 93 (omega (arith, l))) ∙ none (nat_lt 0 n))
  where
    none : (b : Bool) → (b && false) ≡ false
    none true = refl
    none false = refl

-- how the values of each are read, by its descriptor
pub all_read : map (λ f. reads_of f.static f.descriptor) forms ≡ reads
unfolding method_of types_at type_at element_at result_at is_class_name
all_read = refl
