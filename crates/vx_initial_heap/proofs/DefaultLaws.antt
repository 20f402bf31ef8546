-- The default of a field by what stands behind the [ of its descriptor.
use Rattle.std.proofs.Common.{◌≡◌, ℕ, suc, ◌+◌, ◌-◌, ◌<◌, ◌≤◌, Bool, true, false, List, [], ◌∷◌, length, drop, take, refl, sym, ◌∙◌, ap, ◌&&◌, Option, Some, None, position, if◌then◌else◌, zero-add, arith}
use Rattle.std.specs.Prelude.{◌==◌, nat_le, option_and_then, slice_index, take_while}
use Rattle.std.proofs.lemmas.Bool.Decides.{nat_tests}
use Rattle.std.proofs.lemmas.List.{drop_more, get_or_past, length-drop, take_all}
use Rattle.std.proofs.lemmas.Bool.{le-leb}
use Rattle.vx_desc.specs.Descriptors.{base_of, element_at, field_of, field_type, only_if, type_at}
use Rattle.vx_desc.specs.Names.{is_class_name}
use Rattle.vx_desc.specs.declared.java_type.Base.{Base}
use Rattle.vx_desc.specs.declared.java_type.Base.TheVariants.{Class}
use Rattle.vx_desc.specs.declared.java_type.Descriptor.{Descriptor}
use Rattle.vx_desc.specs.declared.java_type.JavaType.{JavaType}
use Rattle.vx_initial_heap.specs.Defaults.{base_in, default_over, ends_at}
use Rattle.vx_java.specs.FirstObjects.{default_of_field}
use Rattle.vx_java.specs.Machine.{Text}

-- the type, where it ends at the end of the text
abbrev whole : ℕ → Option (JavaType × ℕ) → Option JavaType
whole n None = None
whole n (Some t) = if t.1 == n then Some t.0 else None

whole_field : (n : ℕ) (o : Option (JavaType × ℕ)) → option_and_then {T = Descriptor} (λ d. d.result) (option_and_then (λ t. only_if (t.1 == n) (record { arguments = []; result = Some t.0 })) o) ≡ whole n o
whole_field n None = refl
whole_field n (Some t) = by (t.1 == n)
  where
    by : (b : Bool) → option_and_then {T = Descriptor} (λ d. d.result) (only_if b (record { arguments = []; result = Some t.0 })) ≡ (if b then Some t.0 else None)
    by true = refl
    by false = refl

type_of_field : (bytes : List ℕ) → field_type bytes ≡ whole (length bytes) (type_at bytes 0)
unfolding field_of
type_of_field bytes = whole_field (length bytes) (type_at bytes 0)

-- what the types of a class and of a letter come to
class_default : (d at len n : ℕ) (rest : List ℕ) (is_name : Bool) → n ≡ at + 1 + length rest → default_of_field (whole n (only_if is_name (record { base = Class; dimensions = d; from = at + 1; end = at + 1 + len }, at + len + 2))) ≡ default_over d (only_if (is_name && len + 1 == length rest) Class)
class_default d at len n rest false e = refl
class_default d at len n rest true e = by (at + len + 2 == n) (len + 1 == length rest) (ends at len n (length rest) e)
  where
    ends : (at len n m : ℕ) → n ≡ at + 1 + m → (at + len + 2 == n) ≡ (len + 1 == m)
    ends at len n m e = grind (arith, nat_tests)

    by : (a b : Bool) → a ≡ b → default_of_field (if a then Some (record { base = Class; dimensions = d; from = at + 1; end = at + 1 + len }) else None) ≡ default_over d (only_if b Class)
    by true true h = refl
    by false false h = refl
    by true false h = cc
    by false true h = cc

letter_default : (d at n m : ℕ) (o : Option Base) → n ≡ at + 1 + m → default_of_field (whole n (option_and_then (λ letter. Some (record { base = letter; dimensions = d; from = 0; end = 0 }, at + 1)) o)) ≡ default_over d (if m == 0 then o else None)
letter_default d at n m None e = by (m == 0)
  where
    by : (b : Bool) → Text [] ≡ default_over d (if b then None else None)
    by true = refl
    by false = refl
letter_default d at n m (Some letter) e = by (at + 1 == n) (m == 0) (ends at n m e)
  where
    ends : (at n m : ℕ) → n ≡ at + 1 + m → (at + 1 == n) ≡ (m == 0)
    ends at n m e = grind (arith, nat_tests)

    by : (a b : Bool) → a ≡ b → default_of_field (if a then Some (record { base = letter; dimensions = d; from = 0; end = 0 }) else None) ≡ default_over d (if b then Some letter else None)
    by true true h = refl
    by false false h = refl
    by true false h = cc
    by false true h = cc

-- the type that a byte begins
abbrev begun : (d at b : ℕ) → List ℕ → Option (JavaType × ℕ)
begun d at b rest =
    if b == 76
    then (option_and_then (λ len. only_if (is_class_name (take len rest)) (record { base = Class; dimensions = d; from = at + 1; end = at + 1 + len }, at + len + 2)) (position (λ x. x == 59) rest))
    else (option_and_then (λ letter. Some (record { base = letter; dimensions = d; from = 0; end = 0 }, at + 1)) (base_of b))

begun_default : (d at n b : ℕ) (rest : List ℕ) → n ≡ at + 1 + length rest → default_of_field (whole n (begun d at b rest)) ≡ default_over d (base_in (b ∷ rest))
begun_default d at n b rest e = by (b == 76)
  where
    named : (o : Option ℕ) → default_of_field (whole n (option_and_then (λ len. only_if (is_class_name (take len rest)) (record { base = Class; dimensions = d; from = at + 1; end = at + 1 + len }, at + len + 2)) o)) ≡ default_over d (only_if (ends_at rest o) Class)
    named None = refl
    named (Some len) = class_default d at len n rest (is_class_name (take len rest)) e

    by : (t : Bool) → default_of_field (whole n (if t
        then (option_and_then (λ len. only_if (is_class_name (take len rest)) (record { base = Class; dimensions = d; from = at + 1; end = at + 1 + len }, at + len + 2)) (position (λ x. x == 59) rest))
        else (option_and_then (λ letter. Some (record { base = letter; dimensions = d; from = 0; end = 0 }, at + 1)) (base_of b))))
        ≡ default_over d (if t then only_if (ends_at rest (position (λ x. x == 59) rest)) Class else (if length rest == 0 then base_of b else None))
    by true = named (position (λ x. x == 59) rest)
    by false = letter_default d at n (length rest) (base_of b) e

element_default : (d at : ℕ) (bytes : List ℕ) → default_of_field (whole (length bytes) (element_at d bytes at)) ≡ default_over d (base_in (drop at bytes))
unfolding element_at
element_default d at bytes = by (drop at bytes) refl
  where
    past : length bytes ≤ at → default_of_field (whole (length bytes) (begun d at (slice_index bytes at) (drop (at + 1) bytes))) ≡ Text []
    past h = ap (λ b. default_of_field (whole (length bytes) (begun d at b (drop (at + 1) bytes)))) (get_or_past bytes at 0 h)

    by : (text : List ℕ) → drop at bytes ≡ text → default_of_field (whole (length bytes) (begun d at (slice_index bytes at) (drop (at + 1) bytes))) ≡ default_over d (base_in (drop at bytes))
    by [] h =
        let none : length (drop at bytes) ≡ 0 = ap length h in
        past (omega (arith, none, length-drop at bytes)) ∙ ap (λ t. default_over d (base_in t)) (sym h)
    by (b ∷ rest) h =
        let some : length (drop at bytes) ≡ suc (length rest) = ap length h in
        let less : at < length bytes = omega (arith, some, length-drop at bytes) in
        begun_default d at (length bytes) (slice_index bytes at) (drop (at + 1) bytes) (omega (arith, less, length-drop (at + 1) bytes))
        ∙ ap (λ t. default_over d (base_in t)) (sym (drop_more bytes at 0 less))

type_default : (bytes : List ℕ) (d : ℕ) (b : Bool) → d ≡ length (take_while (λ x. x == 91) bytes) → nat_le d 255 ≡ b → default_of_field (field_type bytes) ≡ (if b then default_over d (base_in (drop d bytes)) else Text [])
unfolding type_at
type_default bytes d b e h =
    ap default_of_field (type_of_field bytes)
    ∙ ap (λ n. default_of_field (whole (length bytes) (if nat_le n 255 then element_at n bytes (0 + n) else None))) (sym e)
    ∙ by b h
  where
    by : (b : Bool) → nat_le d 255 ≡ b → default_of_field (whole (length bytes) (if nat_le d 255 then element_at d bytes (0 + d) else None)) ≡ (if b then default_over d (base_in (drop d bytes)) else Text [])
    by true h = rw (h, zero-add d) (element_default d d bytes)
    by false h = rw h refl

pub long_default : (bytes : List ℕ) (d : ℕ) → d ≡ length (take_while (λ x. x == 91) bytes) → 255 < d → Text [] ≡ default_of_field (field_type bytes)
long_default bytes d e h = sym (type_default bytes d false e (not_le d 255 h))
  where
    not_le : (a b : ℕ) → b < a → nat_le a b ≡ false
    not_le a b h = grind (arith, nat_tests)

pub short_default : (bytes : List ℕ) (d : ℕ) → d ≡ length (take_while (λ x. x == 91) bytes) → d ≤ 255 → default_over d (base_in (drop d bytes)) ≡ default_of_field (field_type bytes)
short_default bytes d e h = sym (type_default bytes d true e (le-leb d 255 h))

-- a slice from a place on
pub items_behind : (xs : List ℕ) (k : ℕ) → take (length xs - k) (drop k xs) ≡ drop k xs
items_behind xs k = take_all (length xs - k) (drop k xs) (omega (arith, length-drop k xs))
