-- Fields and methods.
use Rattle.std.specs.Prelude.{ℕ, ◌+◌, List, [], Bool, true, false, Option, Some, None, Ok, is_some, is_none, unwrap_or, not, ◌==◌, ◌&&◌, ◌||◌, bit_and, if◌then◌else◌, codes}
use Rattle.std.specs.List.{list_any}
use Rattle.std.specs.Str.{bytes_eq}
use Rattle.vx_pool.specs.declared.pool.Entry.{Entry}
use Rattle.vx_pool.specs.declared.pool.Entry.TheVariants as entry
use Rattle.vx_pool.specs.declared.pool.Pool.{Pool}
use Rattle.vx_pool.specs.Place.{Place}
use Rattle.vx_pool.specs.Reading.{Read, ◌>>=◌, check, number, steps, behind}
use Rattle.vx_desc.specs.declared.java_type.Base.{Base}
use Rattle.vx_desc.specs.declared.java_type.Base.TheVariants as base
use Rattle.vx_desc.specs.declared.java_type.JavaType.{JavaType}
use Rattle.vx_desc.specs.Names.{is_clinit, is_init, is_field_name, is_method_name}
use Rattle.vx_desc.specs.Descriptors.{is_field_descriptor, is_method_descriptor, field_type, method_slots, returns_nothing}
use Rattle.vx_class.specs.declared.class_file.Field.{Field}
use Rattle.vx_class.specs.declared.class_file.Method.{Method}
use Rattle.vx_class.specs.declared.class_file.Code.{Code}
use Rattle.vx_pool.specs.Lookups.{entry_of, text}
use Rattle.vx_pool.specs.Entries.{usable}
use Rattle.vx_class.specs.Code.{utf8_at, content_at, code_at}

-- ---- access flags

-- all bits of a flag stand among these
abbrev pub has : ℕ → ℕ → Bool
has flags flag = bit_and flags flag == flag

abbrev pub STATIC : ℕ
STATIC = 0x0008

abbrev pub NATIVE : ℕ
NATIVE = 0x0100

abbrev pub INTERFACE : ℕ
INTERFACE = 0x0200

abbrev pub ABSTRACT : ℕ
ABSTRACT = 0x0400

-- ---- constants

-- the kind of number that a type has
abbrev pub is_number_for : Base → Option Entry → Bool
is_number_for base.Long (Some (entry.Long n)) = true
is_number_for base.Double (Some (entry.Double n)) = true
is_number_for base.Float (Some (entry.Float n)) = true
is_number_for base.Int (Some (entry.Integer n)) = true
is_number_for base.Short (Some (entry.Integer n)) = true
is_number_for base.Char (Some (entry.Integer n)) = true
is_number_for base.Byte (Some (entry.Integer n)) = true
is_number_for base.Bool (Some (entry.Integer n)) = true
is_number_for _ _ = false

abbrev pub is_literal : Option Entry → Bool
is_literal (Some (entry.Text i)) = true
is_literal _ = false

abbrev pub fits_type : List ℕ → Option Entry → Option JavaType → Bool
fits_type descriptor e None = false
fits_type descriptor e (Some t) = (t.dimensions == 0 && is_number_for t.base e) || (is_literal e && bytes_eq descriptor (codes "Ljava/lang/String;"))

-- the kind of entry that a constant of a descriptor's type has
abbrev pub is_constant_for : List ℕ → Option Entry → Bool
is_constant_for descriptor e = fits_type descriptor e (field_type descriptor)

-- the constant of a field, where none was found before
unfoldable pub constant_at : Pool → List ℕ → Option ℕ → ℕ → Place → Read (Option ℕ)
constant_at pool descriptor found at s =
    check (is_none found) at 12 (do
      len ← number 4 s
      check (len.0 == 2) at 12 (do
        index ← number 2 len.1
        check (usable pool index.0) len.1.at 5
            (check (is_constant_for descriptor (entry_of pool index.0)) len.1.at 6 (Ok (Some index.0, index.1)))))

-- an attribute of a field: its constant, where it is static
unfoldable pub field_attribute_at : Pool → Bool → List ℕ → Option ℕ → Place → Read (Option ℕ)
field_attribute_at pool static descriptor found s = do
  name ← utf8_at pool s
  if static && bytes_eq name.0.1 (codes "ConstantValue") then constant_at pool descriptor found s.at name.1 else (content_at name.1 >>= λ c. Ok (found, c.1))

-- ---- members

-- the index of a lawful text, and the text
unfoldable pub lawful_at : (List ℕ → Bool) → ℕ → Pool → Place → Read (ℕ × List ℕ)
lawful_at test reason pool s = do
  x ← utf8_at pool s
  check (test x.0.1) s.at reason (Ok x)

abbrev pub is_given : List ℕ → Option (List ℕ) → Bool
is_given expected None = false
is_given expected (Some t) = bytes_eq t expected

abbrev pub is_text_of : Pool → ℕ → List ℕ → Bool
is_text_of pool i expected = is_given expected (text pool i)

-- whether two members have one name and one descriptor
abbrev pub is_same : Pool → ℕ → ℕ → List ℕ → List ℕ → Bool
is_same pool n d name descriptor = is_text_of pool n name && is_text_of pool d descriptor

-- the constant among the attributes of a field
unfoldable pub constant_among : Pool → Bool → List ℕ → Place → Read (Option ℕ)
constant_among pool static descriptor s = do
  count ← number 2 s
  steps (field_attribute_at pool static descriptor) None count.0 count.1

-- a field, where those before it are known
unfoldable pub field_at : Pool → Bool → List Field → Place → Read Field
field_at pool interface front s = do
  flags ← number 2 s
  name ← lawful_at is_field_name 7 pool flags.1
  descriptor ← lawful_at is_field_descriptor 8 pool name.1
  check (not (list_any (λ f. is_same pool f.name f.descriptor name.0.1 descriptor.0.1) front)) s.at 12 (do
    constant ← constant_among pool (interface || has flags.0 STATIC) descriptor.0.1 descriptor.1
    Ok (record { flags = flags.0; name = name.0.0; descriptor = descriptor.0.0; constant = unwrap_or constant.0 0 }, constant.1))

unfoldable pub fields_at : Pool → Bool → Place → Read (List Field)
fields_at pool interface s = do
  count ← number 2 s
  steps (behind (field_at pool interface)) [] count.0 count.1

-- an attribute of a method: its code, where it may have code
unfoldable pub method_attribute_at : Pool → ℕ → ℕ → Bool → Option Code → Place → Read (Option Code)
method_attribute_at pool major slots takes_code found s = do
  name ← utf8_at pool s
  if bytes_eq name.0.1 (codes "Code") then check (takes_code && is_none found) s.at 12 (code_at pool major slots s.at name.1 >>= λ c. Ok (Some c.0, c.1)) else (content_at name.1 >>= λ c. Ok (found, c.1))

-- <clinit> is taken as static, and as neither abstract nor native
abbrev pub is_static : ℕ → List ℕ → Bool
is_static flags name = is_clinit name || has flags STATIC

abbrev pub takes_code : ℕ → List ℕ → Bool
takes_code flags name = is_clinit name || not (has flags ABSTRACT || has flags NATIVE)

-- the receiver and the arguments
abbrev pub slots_of : ℕ → List ℕ → List ℕ → ℕ
slots_of flags name descriptor = unwrap_or (method_slots descriptor) 0 + (if is_static flags name then 0 else 1)

-- <clinit> has no arguments, and neither it nor <init> has a result
abbrev pub is_lawful_initialiser : List ℕ → List ℕ → Bool
is_lawful_initialiser name descriptor =
    (not (is_clinit name) || bytes_eq descriptor (codes "()V")) && (not (is_init name) || returns_nothing descriptor)

-- the code among the attributes of a method, where it may have code
unfoldable pub code_among : Pool → ℕ → ℕ → Bool → Place → Read (Option Code)
code_among pool major slots takes_code s = do
  count ← number 2 s
  steps (method_attribute_at pool major slots takes_code) None count.0 count.1

-- a method, where those before it are known
unfoldable pub method_at : Pool → ℕ → List Method → Place → Read Method
method_at pool major front s = do
  flags ← number 2 s
  name ← lawful_at is_method_name 7 pool flags.1
  descriptor ← lawful_at is_method_descriptor 8 pool name.1
  check (not (list_any (λ m. is_same pool m.name m.descriptor name.0.1 descriptor.0.1) front)) s.at 12
      (check (is_lawful_initialiser name.0.1 descriptor.0.1) name.1.at 8 (do
        code ← code_among pool major (slots_of flags.0 name.0.1 descriptor.0.1) (takes_code flags.0 name.0.1) descriptor.1
        check (not (takes_code flags.0 name.0.1) || is_some code.0) s.at 12
            (Ok (record { flags = flags.0; name = name.0.0; descriptor = descriptor.0.0; code = code.0 }, code.1))))

unfoldable pub methods_at : Pool → ℕ → Place → Read (List Method)
methods_at pool major s = do
  count ← number 2 s
  steps (behind (method_at pool major)) [] count.0 count.1
