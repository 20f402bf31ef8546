-- Descriptors of fields and methods.
use Rattle.std.specs.Prelude.{◌≡◌, ℕ, zero, suc, ◌+◌, ◌^◌, ◌<◌, ◌≤◌, List, [], ◌∷◌, length, take, drop, sum_by, slice_index, take_while, position, Option, Some, None, Result, Ok, Err, Bool, false, nat_le, ◌==◌, ◌&&◌, if◌then◌else◌, option_and_then, option_map, is_some, is_none}
use Rattle.vx_desc.specs.declared.java_type.Base.{Base}
use Rattle.vx_desc.specs.declared.java_type.Base.TheVariants as base
use Rattle.vx_desc.specs.declared.java_type.JavaType.{JavaType}
use Rattle.vx_desc.specs.declared.java_type.Descriptor.{Descriptor}
use Rattle.vx_desc.specs.declared.java_type.DescFault.{DescFault}
use Rattle.vx_desc.specs.declared.java_type.DescFault.TheVariants as fault
use Rattle.vx_desc.specs.Names.{is_class_name}

infixl 10 ◌>>=◌
abbrev pub ◌>>=◌ : {A B : Type 0} → Option A → (A → Option B) → Option B
o >>= f = option_and_then f o

-- the value where the test holds
abbrev pub only_if : {A : Type 0} → Bool → A → Option A
only_if test x = if test then Some x else None

-- the letter of a type that is no class
abbrev pub base_of : ℕ → Option Base
base_of b =
    if b == 90 then Some base.Bool else if b == 66 then Some base.Byte else if b == 67 then Some base.Char
    else if b == 68 then Some base.Double else if b == 70 then Some base.Float else if b == 73 then Some base.Int
    else if b == 74 then Some base.Long else if b == 83 then Some base.Short else None

-- the type at a place, whose [ are read, and the place behind it: a letter, or L, the name of a class and ;
unfoldable pub element_at : ℕ → List ℕ → ℕ → Option (JavaType × ℕ)
element_at dimensions bytes at =
    if slice_index bytes at == 76
    then (do
      len ← position (λ b. b == 59) (drop (at + 1) bytes)
      only_if (is_class_name (take len (drop (at + 1) bytes)))
          (record { base = base.Class; dimensions = dimensions; from = at + 1; end = at + 1 + len }, at + len + 2))
    else (do
      letter ← base_of (slice_index bytes at)
      Some (record { base = letter; dimensions = dimensions; from = 0; end = 0 }, at + 1))

-- the type at a place, with at most 255 [ before it
unfoldable pub type_at : List ℕ → ℕ → Option (JavaType × ℕ)
type_at bytes at =
    let dimensions = length (take_while (λ b. b == 91) (drop at bytes)) in
    if nat_le dimensions 255 then element_at dimensions bytes (at + dimensions) else None

-- types up to the ) and the place behind it; there are at most as many as the first number
unfoldable pub types_at : ℕ → List ℕ → ℕ → Option (List JavaType × ℕ)
types_at zero bytes at = None
types_at (suc n) bytes at =
    if slice_index bytes at == 41 then Some ([], at + 1)
    else (do
      first ← type_at bytes at
      others ← types_at n bytes first.1
      Some (first.0 ∷ others.0, others.1))

-- the argument slots of a type
abbrev pub slots_of : JavaType → ℕ
slots_of t = if t.dimensions == 0 then base_slots t.base else 1
  where
    base_slots : Base → ℕ
    base_slots base.Long = 2
    base_slots base.Double = 2
    base_slots _ = 1

-- the result of a method: a type, or V for none
unfoldable pub result_at : List ℕ → ℕ → Option (Option JavaType × ℕ)
result_at bytes at =
    if slice_index bytes at == 86 then Some (None, at + 1)
    else (do
      t ← type_at bytes at
      Some (Some t.0, t.1))

-- the descriptor of a method has at most 255 argument slots
unfoldable pub method_of : List ℕ → Option Descriptor
method_of bytes = do
  arguments ← types_at (length bytes) bytes 1
  result ← result_at bytes arguments.1
  only_if (nat_le (sum_by slots_of arguments.0) 255 && (result.1 == length bytes)) (record { arguments = arguments.0; result = result.0 })

unfoldable pub field_of : List ℕ → Option Descriptor
field_of bytes = do
  t ← type_at bytes 0
  only_if (t.1 == length bytes) (record { arguments = []; result = Some t.0 })

-- what a descriptor says: that of a method begins with (
unfoldable pub descriptor_of : List ℕ → Option Descriptor
descriptor_of bytes = if slice_index bytes 0 == 40 then method_of bytes else field_of bytes

abbrev pub HasFewSlots : Descriptor → Type 0
HasFewSlots d = (length d.arguments < 2 ^ 32) × (sum_by slots_of d.arguments ≤ 255)

-- the argument slots of a method's descriptor, without a receiver
unfoldable pub method_slots : List ℕ → Option ℕ
method_slots bytes = if slice_index bytes 0 == 40 then option_map (λ d. sum_by slots_of d.arguments) (method_of bytes) else None

abbrev pub is_field_descriptor : List ℕ → Bool
is_field_descriptor bytes = is_some (field_of bytes)

abbrev pub is_method_descriptor : List ℕ → Bool
is_method_descriptor bytes = is_some (method_slots bytes)

-- the descriptor of a method without a result
abbrev pub returns_nothing : List ℕ → Bool
returns_nothing bytes = slice_index bytes 0 == 40 && has_none (method_of bytes)
  where
    has_none : Option Descriptor → Bool
    has_none None = false
    has_none (Some d) = is_none d.result

abbrev pub field_type : List ℕ → Option JavaType
field_type bytes = option_and_then (λ d. d.result) (field_of bytes)

-- what a function returned is what reading gives, unless memory ran out
abbrev pub Gives : {A : Type 0} → Result A DescFault → Option A → Type 0
Gives (Ok x) read = read ≡ Some x
Gives (Err fault.NoMemory) read = Unit {0}
Gives (Err fault.Bad) read = read ≡ None
