-- The rules that names, descriptors and flags of a source meet (JVMS 4.2, 4.3, 4.6, 4.9.1).
use Rattle.std.specs.Prelude.{ℕ, ◌+◌, List, length, Bool, true, false, not, nat_le, nat_lt, ◌==◌, ◌&&◌, ◌||◌, Option, Some, None, unwrap_or, if◌then◌else◌, codes}
use Rattle.std.specs.Str.{bytes_eq}
use Rattle.vx_desc.specs.declared.java_type.Base.{Base}
use Rattle.vx_desc.specs.declared.java_type.Base.TheVariants as base
use Rattle.vx_desc.specs.declared.java_type.JavaType.{JavaType}
use Rattle.vx_desc.specs.Names.{is_field_name, is_method_name}
use Rattle.vx_desc.specs.Descriptors.{is_field_descriptor, is_method_descriptor, field_type, method_slots}
use Rattle.vx_pool.specs.Lookups.{is_array, is_class_text}
use Rattle.vx_pool.specs.Instructions.{dimensions}
use Rattle.vx_class.specs.Members.{has, STATIC, INTERFACE, is_static, takes_code, slots_of}
use Rattle.vx_source.specs.declared.statement.Value.{Value}
use Rattle.vx_source.specs.declared.statement.Value.TheVariants as value

-- a text of the pool has at most 65,535 bytes
abbrev pub is_short : List ℕ → Bool
is_short name = nat_lt (length name) 65536

-- the name of a class, or the descriptor of an array
unfoldable pub is_lawful_class : List ℕ → Bool
is_lawful_class name = is_short name && is_class_text name

-- the name of a class that is no array
unfoldable pub is_plain_class : List ℕ → Bool
is_plain_class name = not (is_array name) && is_lawful_class name

unfoldable pub is_lawful_field : List ℕ → List ℕ → Bool
is_lawful_field name descriptor = is_short name && is_short descriptor && is_field_name name && is_field_descriptor descriptor

unfoldable pub is_lawful_method : List ℕ → List ℕ → Bool
is_lawful_method name descriptor = is_short name && is_short descriptor && is_method_name name && is_method_descriptor descriptor

-- ---- values of fields

abbrev pub is_int_base : Base → Bool
is_int_base base.Int = true
is_int_base base.Short = true
is_int_base base.Char = true
is_int_base base.Byte = true
is_int_base base.Bool = true
is_int_base _ = false

abbrev pub is_long_base : Base → Bool
is_long_base base.Long = true
is_long_base _ = false

abbrev pub is_value_of_type : Value → JavaType → Bool
is_value_of_type (value.Int n) t = t.dimensions == 0 && is_int_base t.base
is_value_of_type (value.Long n) t = t.dimensions == 0 && is_long_base t.base
is_value_of_type _ t = false

abbrev pub is_number_for : List ℕ → Value → Bool
is_number_for descriptor v = given (field_type descriptor)
  where
    given : Option JavaType → Bool
    given None = false
    given (Some t) = is_value_of_type v t

-- a value has the kind that its descriptor says
abbrev pub is_value_for : List ℕ → Value → Bool
is_value_for descriptor value.Nothing = true
is_value_for descriptor (value.Text text) = bytes_eq descriptor (codes "Ljava/lang/String;")
is_value_for descriptor v = is_number_for descriptor v

abbrev pub is_nothing : Value → Bool
is_nothing value.Nothing = true
is_nothing _ = false

-- only a static field has a value, and each field of an interface is static
unfoldable pub may_have_value : ℕ → ℕ → List ℕ → Value → Bool
may_have_value class_flags flags descriptor v = (is_nothing v || has class_flags INTERFACE || has flags STATIC) && is_value_for descriptor v

-- ---- methods

abbrev pub receiver : ℕ → List ℕ → ℕ
receiver flags name = if is_static flags name then 0 else 1

-- code stands exactly where the flags ask for it, and its locals have room for the arguments
unfoldable pub is_lawful_code : ℕ → List ℕ → List ℕ → Option ℕ → Bool
is_lawful_code flags name descriptor None = not (takes_code flags name)
is_lawful_code flags name descriptor (Some max_locals) = takes_code flags name && nat_le (slots_of flags name descriptor) max_locals

-- ---- calls and arrays

-- the argument slots of invokeinterface with the receiver
abbrev pub interface_slots : List ℕ → ℕ
interface_slots descriptor = if is_short descriptor then unwrap_or (method_slots descriptor) 0 + 1 else 0

-- dimensions that a class has
abbrev pub has_dimensions : ℕ → List ℕ → Bool
has_dimensions n name = nat_le 1 n && nat_le n (dimensions name)
