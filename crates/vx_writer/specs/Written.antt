-- The one spelling of a class: its bytes with no attribute that a reading passes over, where each attribute is named by the least pool entry that spells its name.
use Rattle.std.specs.Prelude.{◌≡◌, ℕ, zero, suc, List, [], ◌∷◌, ◌++◌, length, position, unwrap_or, Bool, true, false, ◌||◌, Option, Some, None, codes}
use Rattle.std.specs.List.{flat_map, AllByRecursion}
use Rattle.std.specs.Str.{bytes_eq}
use Rattle.vx_pool.specs.declared.pool.Entry.{Entry}
use Rattle.vx_pool.specs.declared.pool.Entry.TheVariants as entry
use Rattle.vx_pool.specs.declared.pool.Pool.{Pool}
use Rattle.vx_pool.specs.Spelling.{pool_bytes}
use Rattle.vx_class.specs.declared.class_file.ClassFile.{ClassFile}
use Rattle.vx_class.specs.declared.class_file.Field.{Field}
use Rattle.vx_class.specs.declared.class_file.Method.{Method}
use Rattle.vx_class.specs.declared.class_file.Code.{Code}
use Rattle.vx_class.specs.Members.{has, INTERFACE, STATIC, is_text_of}
use Rattle.vx_class.specs.Spelling.{u2, u4, MAGIC, Attribute, attributes_bytes, code_bytes, member_bytes}

-- ---- names of attributes

abbrev pub is_text_entry : List ℕ → Entry → Bool
is_text_entry expected (entry.Utf8 text) = bytes_eq text expected
is_text_entry expected _ = false

-- the least index at which the pool has a text
abbrev pub least_place : Pool → List ℕ → ℕ
least_place pool text = unwrap_or (position (is_text_entry text) pool.entries) 0

-- ---- what a class needs so that it has a spelling

-- the pool has a text
abbrev pub HasName : Pool → List ℕ → Type 0
HasName pool expected = (i : ℕ) × (is_text_of pool i expected ≡ true)

-- a field that has a constant is static, and the name of the attribute is there
abbrev pub MayHaveConstant : Pool → Bool → ℕ → Type 0
MayHaveConstant pool static zero = Unit {0}
MayHaveConstant pool static (suc n) = (static ≡ true) × HasName pool (codes "ConstantValue")

abbrev pub MayHaveCode : Pool → Option Code → Type 0
MayHaveCode pool None = Unit {0}
MayHaveCode pool (Some code) = HasName pool (codes "Code")

abbrev pub IsNamedField : Pool → Bool → Field → Type 0
IsNamedField pool interface f = MayHaveConstant pool (interface || has f.flags STATIC) f.constant

abbrev pub IsNamedMethod : Pool → Method → Type 0
IsNamedMethod pool m = MayHaveCode pool m.code

-- the pool of a class has the names of all attributes that its members need
pub record IsNamed (c : ClassFile) : Type 0 where
  pub fields : AllByRecursion (IsNamedField c.pool (has c.flags INTERFACE)) c.fields
  pub methods : AllByRecursion (IsNamedMethod c.pool) c.methods

-- ---- members

-- the constant of a field, whose index is 0 where it has none
abbrev pub constant_attributes : Pool → ℕ → List Attribute
constant_attributes pool zero = []
constant_attributes pool (suc n) = record { name = least_place pool (codes "ConstantValue"); content = u2 (suc n) } ∷ []

abbrev pub field_bytes : Pool → Field → List ℕ
field_bytes pool f = member_bytes f.flags f.name f.descriptor (constant_attributes pool f.constant)

unfoldable pub code_attribute : Pool → Code → Attribute
code_attribute pool code = record { name = least_place pool (codes "Code"); content = code_bytes code [] }

abbrev pub code_attributes : Pool → Option Code → List Attribute
code_attributes pool None = []
code_attributes pool (Some code) = code_attribute pool code ∷ []

abbrev pub method_bytes : Pool → Method → List ℕ
method_bytes pool m = member_bytes m.flags m.name m.descriptor (code_attributes pool m.code)

-- ---- the class

-- the parts up to the superclass
unfoldable pub head_bytes : ClassFile → List ℕ
head_bytes c = (u4 MAGIC ++ (u2 c.minor ++ u2 c.major)) ++ (pool_bytes c.pool ++ (u2 c.flags ++ (u2 c.this_class ++ u2 c.super_class)))

-- the parts from the interfaces on
unfoldable pub members_bytes : ClassFile → List ℕ
members_bytes c =
    (u2 (length c.interfaces) ++ flat_map u2 c.interfaces)
    ++ ((u2 (length c.fields) ++ flat_map (field_bytes c.pool) c.fields)
    ++ ((u2 (length c.methods) ++ flat_map (method_bytes c.pool) c.methods)
    ++ attributes_bytes []))

abbrev pub spelling : ClassFile → List ℕ
spelling c = head_bytes c ++ members_bytes c
